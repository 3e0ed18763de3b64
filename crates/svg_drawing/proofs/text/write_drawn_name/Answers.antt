use Rattle.text_fields.proofs.Appending.{flat_step}
use Rattle.svg_drawing.specs.Text.{drawn_name_byte}
use Rattle.svg_drawing.proofs.text.write_drawn_name.Goals as goal

pub loop-byte-preserved : goal.loop-byte-preserved
loop-byte-preserved g c =
    flat_step drawn_name_byte _ _ _ _ _ _ c.loop-byte-test.true c.loop-byte.invariant c.in_ok-write_name_byte.ensures
