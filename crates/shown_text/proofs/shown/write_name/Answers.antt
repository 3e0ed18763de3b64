use Rattle.text_fields.proofs.Appending.{flat_step}
use Rattle.shown_text.specs.Shown.{shown_name_byte}
use Rattle.shown_text.proofs.shown.write_name.Goals as goal

pub loop-byte-preserved : goal.loop-byte-preserved
loop-byte-preserved g c =
    flat_step shown_name_byte _ _ _ _ _ _ c.loop-byte-test.true c.loop-byte.invariant c.in_ok-write_name_byte.ensures
