use Rattle.std.proofs.Common.{take}
use Rattle.std.specs.Io.KnownBytes.{Appends}
use Rattle.text_fields.specs.Each.{each_from}
use Rattle.litmus_text.specs.State.{part_text}
use Rattle.litmus_text.proofs.state.write_parts.Given as goal

-- so many are written
abbrev pub invariant-loop-index : goal.invariant-loop-index
invariant-loop-index g l =
    Appends (g.W.Write.contents l.fn.out) (g.W.Write.contents l.out) (each_from (part_text l.test l.outcome) 0 (take l.index l.test.observed.items))
