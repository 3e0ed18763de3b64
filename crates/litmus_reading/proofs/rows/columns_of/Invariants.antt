use Rattle.std.proofs.Common.{◌≡◌, ◌+◌, ◌≤◌, length, drop}
use Rattle.litmus_reading.specs.Rows.{is_bar, parted_by}
use Rattle.litmus_reading.proofs.rows.columns_of.Given as goal

-- those so far, with those of the rest, in which the last of them goes on
abbrev pub invariant-loop-word : goal.invariant-loop-word
invariant-loop-word l = record {
  few : l.columns ≤ l.word-index + 1;
  all : l.columns + length (parted_by is_bar (drop l.word-index l.row)) ≡ length (parted_by is_bar l.row) + 1;
}
