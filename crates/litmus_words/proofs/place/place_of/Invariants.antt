use Rattle.std.proofs.Common.{take, ◌≤◌, ◌+◌}
use Rattle.litmus_words.specs.Places.{IsLineBehind, IsColumnBehind}
use Rattle.litmus_words.proofs.place.place_of.Given as goal

abbrev pub invariant-loop-byte : goal.invariant-loop-byte
invariant-loop-byte l = record {
  line : IsLineBehind (take l.byte-index l.byte-items) l.line;
  column : IsColumnBehind (take l.byte-index l.byte-items) l.column;
  few : l.line ≤ l.byte-index + 1;
  short : l.column ≤ l.byte-index + 1;
}
