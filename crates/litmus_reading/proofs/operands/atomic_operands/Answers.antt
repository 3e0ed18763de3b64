use Rattle.litmus_words.specs.declared.word.Token.TheVariants.{Register, Mark}
use Rattle.litmus_words.specs.declared.word.Mark.TheVariants as mark
use Rattle.litmus_reading.proofs.Chains.{behind_one, behind_two, one_of, two_of}
use Rattle.litmus_reading.proofs.operands.atomic_operands.Goals as goal

pub returns-in_err-rd-clause-only : goal.returns-in_err-rd-clause-only
returns-in_err-rd-clause-only c = λ rd rs2 rs1 it.
    absurd (c.in_err-rd.ensures.only rd _ (one_of c.args.words.now (Register rd) _ it.spelled).takes)

pub returns-in_err-rs2-clause-only : goal.returns-in_err-rs2-clause-only
returns-in_err-rs2-clause-only c = λ rd rs2 rs1 it.
    absurd (c.in_err-rs2.ensures.only rs2 _ (two_of c.in_ok-rd.rest.now (Mark mark.Comma) (Register rs2) _
    (behind_one _ _ _ _ _ c.in_ok-rd.ensures.taken it.spelled)).takes)

pub returns-in_err-rs1-clause-only : goal.returns-in_err-rs1-clause-only
returns-in_err-rs1-clause-only c = λ rd rs2 rs1 it.
    absurd (c.in_err-rs1.ensures.only rs1 (record {
      address = it.address;
      spells = it.spells;
      spelled = behind_two _ _ _ _ _ _ _ c.in_ok-rs2.ensures.spelled
          (behind_one _ _ _ _ _ c.in_ok-rd.ensures.taken it.spelled);
    }))
