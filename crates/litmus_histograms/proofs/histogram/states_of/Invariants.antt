use Rattle.std.proofs.Common.{◌≡◌, ◌≤◌, count_by, take}
use Rattle.litmus_histograms.specs.{Counting.in_rows, Text.has_bar_for}
use Rattle.litmus_histograms.proofs.histogram.states_of.Given as goal

-- so many of those before
abbrev pub invariant-loop-index : goal.invariant-loop-index
invariant-loop-index l =
    (l.states ≡ count_by (has_bar_for l.test (in_rows l.rows)) (take l.index l.outcomes.listed)) × (l.states ≤ l.index)
