use Rattle.std.proofs.Common.{◌≡◌, ◌≤◌, ◌*◌, ◌^◌, take}
use Rattle.litmus_histograms.specs.{Counting.in_rows, Kinds.is_kind}
use Rattle.litmus_histograms.proofs.counting.runs_of_kind.Given as goal

-- the counts of those so far, each a word
abbrev pub invariant-loop-row : goal.invariant-loop-row
invariant-loop-row l = record {
  counted : l.runs ≡ in_rows (take l.row-index l.rows) (is_kind l.test l.kind);
  small : l.runs ≤ 2 ^ 32 * l.row-index;
}
