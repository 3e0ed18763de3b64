use Rattle.std.proofs.Common.{[], pos}
use Rattle.litmus_words.specs.declared.word.Token.TheVariants.{Register}
use Rattle.litmus_reading.proofs.Chains.{behind_one, integer_alone, one_of}
use Rattle.litmus_reading.proofs.operands.upper_operands.Goals as goal

pub returns-in_err-rd-clause-only : goal.returns-in_err-rd-clause-only
returns-in_err-rd-clause-only c = λ rd upper it.
    absurd (c.in_err-rd.ensures.only rd _ (one_of c.args.words.now (Register rd) _ it.spelled).takes)

pub returns-in_err-number-clause-only : goal.returns-in_err-number-clause-only
returns-in_err-number-clause-only c = λ rd upper it.
    absurd (c.in_err-number.ensures.only (pos it.bits) []
    (integer_alone c.in_ok-rest.rest.now it.number (pos it.bits) it.spells
    (behind_one _ _ _ _ _ c.in_ok-rest.ensures.spelled (behind_one _ _ _ _ _ c.in_ok-rd.ensures.taken it.spelled))))

pub returns-in_err-nothing-clause-only : goal.returns-in_err-nothing-clause-only
returns-in_err-nothing-clause-only c = λ rd upper it.
    absurd (c.in_err-nothing.ensures.refused (c.in_ok-number.ensures.only (pos it.bits) []
    (integer_alone c.in_ok-rest.rest.now it.number (pos it.bits) it.spells
    (behind_one _ _ _ _ _ c.in_ok-rest.ensures.spelled
    (behind_one _ _ _ _ _ c.in_ok-rd.ensures.taken it.spelled)))).1)
