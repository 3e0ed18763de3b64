use mathlib.Core.Logic.{inr}
use Rattle.sim_inputs.specs.declared.line.WordsRefused.TheVariants.{Memory}
use Rattle.program_io.proofs.performing.Program.answer_texts.Goals as goal

pub returns-in-Err-clause-ended : goal.returns-in-Err-clause-ended
returns-in-Err-clause-ended g c =
    inr (record {
      why = Memory;
      refused = tt;
      has_status = c.refuse_read.ensures.status;
      told = c.refuse_read.ensures.told;
    })
