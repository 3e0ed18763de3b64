use Rattle.std.proofs.Common.{take, flat_map}
use Rattle.std.specs.Io.KnownBytes.{Appends}
use Rattle.text_fields.specs.Spelling.{hex}
use Rattle.report_lines.proofs.standing.write_bytes.Given as goal

-- the digits of the bytes so far are written
abbrev pub invariant-loop-byte : goal.invariant-loop-byte
invariant-loop-byte g l =
    Appends (g.W.Write.contents l.fn.out) (g.W.Write.contents l.out) (flat_map (hex 2) (take l.byte-index l.bytes))
