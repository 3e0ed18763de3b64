use Rattle.litmus_reading.proofs.Chains.{passed_on}
use Rattle.litmus_reading.proofs.Looking.{register_few, register_told, registers_told}
use Rattle.litmus_reading.proofs.observed.add_registers.Goals as goal

pub loop-register-preserved : goal.loop-register-preserved
loop-register-preserved c =
    register_told c.args.question.now.condition c.args.question.now.filter c.args.question.now.listed.observed.items
    _ _ _ _ _ c.loop-register-test.true c.loop-register.invariant c.in_ok-add_named.ensures.added

pub returns-clause-added : goal.returns-clause-added
returns-clause-added c =
    registers_told c.args.question.now.condition c.args.question.now.filter c.args.question.now.listed.observed.items
    _ _ _ _ c.loop-register-test.false c.loop-register.invariant

pub returns-in_err-add_named-clause-only : goal.returns-in_err-add_named-clause-only
returns-in_err-add_named-clause-only c = λ few.
    passed_on _ _ (λ _. Unit {0}) (λ _. Unit {0}) c.from_residual.ensures.1
    (c.in_err-add_named.ensures.only (register_few c.args.question.now.condition c.args.question.now.filter
    c.args.question.now.listed.observed.items _ _ _ _ c.loop-register-test.true c.loop-register.invariant few))
