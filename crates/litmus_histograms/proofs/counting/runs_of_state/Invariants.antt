use Rattle.std.proofs.Common.{◌≡◌, ◌≤◌, ◌*◌, ◌^◌, take}
use Rattle.stress_runs.specs.Ends.{same_end}
use Rattle.litmus_histograms.specs.Counting.{in_rows}
use Rattle.litmus_histograms.proofs.counting.runs_of_state.Given as goal

-- the counts of those so far, each a word
abbrev pub invariant-loop-row : goal.invariant-loop-row
invariant-loop-row l = record {
  counted : l.runs ≡ in_rows (take l.row-index l.rows) (λ end. same_end end l.outcome);
  small : l.runs ≤ 2 ^ 32 * l.row-index;
}
