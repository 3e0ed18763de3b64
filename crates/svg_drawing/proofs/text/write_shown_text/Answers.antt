use Rattle.text_fields.proofs.Appending.{flat_step}
use Rattle.svg_drawing.specs.Text.{drawn_byte}
use Rattle.svg_drawing.proofs.text.write_shown_text.Goals as goal

pub loop-byte-preserved : goal.loop-byte-preserved
loop-byte-preserved g c =
    flat_step drawn_byte _ _ _ _ _ _ c.loop-byte-test.true c.loop-byte.invariant c.in_ok-write_byte.ensures
