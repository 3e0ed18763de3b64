use Rattle.litmus_reading.proofs.Chains.{passed_on}
use Rattle.litmus_reading.proofs.Looking.{all_told, hart_few, hart_told, locations_few}
use Rattle.litmus_reading.proofs.observed.observed_of.Goals as goal

pub loop-hart-preserved : goal.loop-hart-preserved
loop-hart-preserved c =
    hart_told c.args.question.now.condition c.args.question.now.filter c.args.question.now.listed.observed.items
    _ _ _ _ _ c.loop-hart-test.true c.loop-hart.invariant c.in_ok-add_registers.ensures.added

pub returns-clause-looked : goal.returns-clause-looked
returns-clause-looked c =
    all_told c.args.question.now.condition c.args.question.now.filter c.args.question.now.listed.observed.items
    _ _ _ _ _ c.loop-hart-test.false c.loop-hart.invariant c.in_ok-add_locations.ensures.added

pub returns-in_err-add_registers-clause-only : goal.returns-in_err-add_registers-clause-only
returns-in_err-add_registers-clause-only c = λ few.
    passed_on _ _ (λ _. Unit {0}) (λ _. Unit {0}) c.from_residual.ensures.1
    (c.in_err-add_registers.ensures.only (hart_few c.args.question.now.condition c.args.question.now.filter
    c.args.question.now.listed.observed.items _ _ c.args.locations _ c.loop-hart-test.true c.loop-hart.invariant few))

pub returns-in_err-add_locations-clause-only : goal.returns-in_err-add_locations-clause-only
returns-in_err-add_locations-clause-only c = λ few.
    passed_on _ _ (λ _. Unit {0}) (λ _. Unit {0}) c.from_residual-in_err-add_locations.ensures.1
    (c.in_err-add_locations.ensures.only (locations_few c.args.question.now.condition c.args.question.now.filter
    c.args.question.now.listed.observed.items _ _ _ _ c.loop-hart-test.false c.loop-hart.invariant few))
