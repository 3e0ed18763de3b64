use Rattle.std.proofs.Common.{◌≡◌, length}
use Rattle.source_lines.specs.Lines.{origins_of}
use Rattle.source_lines.specs.Faults.{last_address}
use Rattle.source_lines.proofs.Growing.{AreRead}
use Rattle.source_lines.proofs.reading.read_lines.Given as goal

-- the lines so far are read, and the last of them has the last address
abbrev pub invariant-loop-left : goal.invariant-loop-left
invariant-loop-left l = record {
  are : AreRead l.image l.text (origins_of l.lines.items) l.left;
  last_is : l.last ≡ last_address (origins_of l.lines.items);
}

abbrev pub decreases-loop-left : goal.decreases-loop-left
decreases-loop-left l = length l.left
