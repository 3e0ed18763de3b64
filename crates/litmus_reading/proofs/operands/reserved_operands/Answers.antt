use Rattle.litmus_words.specs.declared.word.Token.TheVariants.{Register}
use Rattle.litmus_reading.proofs.Chains.{behind_one, one_of}
use Rattle.litmus_reading.proofs.operands.reserved_operands.Goals as goal

pub returns-in_err-rd-clause-only : goal.returns-in_err-rd-clause-only
returns-in_err-rd-clause-only c = λ rd base it.
    absurd (c.in_err-rd.ensures.only rd _ (one_of c.args.words.now (Register rd) _ it.spelled).takes)

pub returns-in_err-rs1-clause-only : goal.returns-in_err-rs1-clause-only
returns-in_err-rs1-clause-only c = λ rd base it.
    absurd (c.in_err-rs1.ensures.only base (record {
      address = it.address;
      spells = it.spells;
      spelled = behind_one _ _ _ _ _ c.in_ok-rd.ensures.taken it.spelled;
    }))
