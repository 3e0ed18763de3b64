use Rattle.litmus_words.specs.declared.word.Token.TheVariants.{Register, Mark}
use Rattle.litmus_words.specs.declared.word.Mark.TheVariants as mark
use Rattle.std.proofs.Common.{[], pos}
use Rattle.litmus_reading.proofs.Chains.{behind_one, behind_two, integer_alone, one_of, two_of}
use Rattle.litmus_reading.proofs.operands.shift_operands.Goals as goal

pub returns-in_err-rd-clause-only : goal.returns-in_err-rd-clause-only
returns-in_err-rd-clause-only c = λ rd rs1 amount it.
    absurd (c.in_err-rd.ensures.only rd _ (one_of c.args.words.now (Register rd) _ it.spelled).takes)

pub returns-in_err-rs1-clause-only : goal.returns-in_err-rs1-clause-only
returns-in_err-rs1-clause-only c = λ rd rs1 amount it.
    absurd (c.in_err-rs1.ensures.only rs1 _
    (two_of c.in_ok-rd.rest.now (Mark mark.Comma) (Register rs1) _
    (behind_one _ _ _ _ _ c.in_ok-rd.ensures.taken it.spelled)).takes)

pub returns-in_err-number-clause-only : goal.returns-in_err-number-clause-only
returns-in_err-number-clause-only c = λ rd rs1 amount it.
    absurd (c.in_err-number.ensures.only (pos amount) []
    (integer_alone c.in_ok-rest.rest.now it.number (pos amount) it.spells
    (behind_one _ _ _ _ _ c.in_ok-rest.ensures.spelled (behind_two _ _ _ _ _ _ _ c.in_ok-rs1.ensures.spelled
    (behind_one _ _ _ _ _ c.in_ok-rd.ensures.taken it.spelled)))))

pub returns-in_err-nothing-clause-only : goal.returns-in_err-nothing-clause-only
returns-in_err-nothing-clause-only c = λ rd rs1 amount it.
    absurd (c.in_err-nothing.ensures.refused
    (c.in_ok-number.ensures.only (pos amount) []
    (integer_alone c.in_ok-rest.rest.now it.number (pos amount) it.spells
    (behind_one _ _ _ _ _ c.in_ok-rest.ensures.spelled (behind_two _ _ _ _ _ _ _ c.in_ok-rs1.ensures.spelled
    (behind_one _ _ _ _ _ c.in_ok-rd.ensures.taken it.spelled))))).1)
