use Rattle.std.proofs.Common.{take, flat_map}
use Rattle.std.specs.Io.KnownBytes.{Appends}
use Rattle.explanations.specs.ImageRefusal.{byte_text}
use Rattle.explanations.proofs.file_fault.write_bytes.Given as goal

-- the bytes so far are written
abbrev pub invariant-loop-byte : goal.invariant-loop-byte
invariant-loop-byte g l = Appends (g.W.Write.contents l.fn.out) (g.W.Write.contents l.out)
    (flat_map byte_text (take l.byte-index l.bytes))
