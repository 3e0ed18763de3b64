use Rattle.text_fields.proofs.Appending.{flat_step}
use Rattle.text_fields.specs.Spelling.{hex}
use Rattle.report_lines.proofs.standing.write_bytes.Goals as goal

pub loop-byte-preserved : goal.loop-byte-preserved
loop-byte-preserved g c = flat_step (hex 2) _ _ _ _ _ 0 c.loop-byte-test.true c.loop-byte.invariant c.in_ok-write_byte.ensures
