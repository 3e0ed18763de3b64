use Rattle.litmus_words.specs.declared.word.Token.TheVariants.{Register, Mark}
use Rattle.litmus_words.specs.declared.word.Mark.TheVariants as mark
use Rattle.litmus_reading.proofs.Chains.{behind_one, behind_two, none_of, one_of, two_of}
use Rattle.litmus_reading.proofs.operands.register_operands.Goals as goal

pub returns-in_err-rd-clause-only : goal.returns-in_err-rd-clause-only
returns-in_err-rd-clause-only c = λ rd rs1 rs2 is.
    absurd (c.in_err-rd.ensures.only rd _ (one_of c.args.words.now (Register rd) _ is).takes)

pub returns-in_err-rs1-clause-only : goal.returns-in_err-rs1-clause-only
returns-in_err-rs1-clause-only c = λ rd rs1 rs2 is.
    absurd (c.in_err-rs1.ensures.only rs1 _
    (two_of c.in_ok-rd.rest.now (Mark mark.Comma) (Register rs1) _
    (behind_one _ _ _ _ _ c.in_ok-rd.ensures.taken is)).takes)

pub returns-in_err-rs2-clause-only : goal.returns-in_err-rs2-clause-only
returns-in_err-rs2-clause-only c = λ rd rs1 rs2 is.
    absurd (c.in_err-rs2.ensures.only rs2 _
    (two_of c.in_ok-rs1.rest.now (Mark mark.Comma) (Register rs2) _
    (behind_two _ _ _ _ _ _ _ c.in_ok-rs1.ensures.spelled
    (behind_one _ _ _ _ _ c.in_ok-rd.ensures.taken is))).takes)

pub returns-in_err-nothing-clause-only : goal.returns-in_err-nothing-clause-only
returns-in_err-nothing-clause-only c = λ rd rs1 rs2 is.
    absurd (c.in_err-nothing.ensures.refused (none_of c.in_ok-rs2.rest.now
    (behind_two _ _ _ _ _ _ _ c.in_ok-rs2.ensures.spelled (behind_two _ _ _ _ _ _ _ c.in_ok-rs1.ensures.spelled
    (behind_one _ _ _ _ _ c.in_ok-rd.ensures.taken is)))))
