use Rattle.text_fields.proofs.Appending.{flat_step}
use Rattle.scripts.specs.Lines.{spaced_text}
use Rattle.scripts.proofs.printing.write_others.Goals as goal

pub loop-word-preserved : goal.loop-word-preserved
loop-word-preserved g c =
    flat_step spaced_text _ _ _ _ _ _ c.loop-word-test.true c.loop-word.invariant c.in_ok-write_spaced.ensures
