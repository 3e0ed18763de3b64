use Rattle.std.proofs.Common.{[]}
use Rattle.litmus_words.specs.declared.word.Token.TheVariants.{Register}
use Rattle.litmus_reading.proofs.Chains.{behind_one, number_alone, one_of}
use Rattle.litmus_reading.proofs.instruction.constant.Goals as goal

pub returns-in_err-register-clause-only : goal.returns-in_err-register-clause-only
returns-in_err-register-clause-only c = λ register value it.
    absurd (c.in_err-register.ensures.only register _
    (one_of c.args.operands.now (Register register) _ it.spelled).takes)

pub returns-in_err-value-clause-only : goal.returns-in_err-value-clause-only
returns-in_err-value-clause-only c = λ register value it.
    absurd (c.in_err-value.ensures.only value [] (number_alone c.in_ok-rest.rest.now it.number value it.spells
    (behind_one _ _ _ _ _ c.in_ok-rest.ensures.spelled
    (behind_one _ _ _ _ _ c.in_ok-register.ensures.taken it.spelled))))

pub returns-in_err-nothing-clause-only : goal.returns-in_err-nothing-clause-only
returns-in_err-nothing-clause-only c = λ register value it.
    absurd (c.in_err-nothing.ensures.refused (c.in_ok-value.ensures.only value []
    (number_alone c.in_ok-rest.rest.now it.number value it.spells
    (behind_one _ _ _ _ _ c.in_ok-rest.ensures.spelled
    (behind_one _ _ _ _ _ c.in_ok-register.ensures.taken it.spelled)))).1)
