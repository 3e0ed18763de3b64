use Rattle.text_fields.proofs.Appending.{flat_step}
use Rattle.explanations.specs.ImageRefusal.{byte_text}
use Rattle.explanations.proofs.file_fault.write_bytes.Goals as goal

pub loop-byte-preserved : goal.loop-byte-preserved
loop-byte-preserved g c = flat_step byte_text _ _ _ _ _ _ c.loop-byte-test.true
    c.loop-byte.invariant c.in_ok-write_hex.ensures
