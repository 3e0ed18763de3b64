use Rattle.std.proofs.Common.{◌≡◌, ◌≤◌, List, [], ◌++◌, length}
use Rattle.litmus_tests.specs.Limits.{most_steps}
use Rattle.litmus_reading.proofs.Columns.{Left}
use Rattle.litmus_reading.specs.declared.instruction.Written.{Written}
use Rattle.litmus_reading.specs.Rows.{column_of}
use Rattle.litmus_reading.specs.Threads.{instructions_of, labels_from, AreOnce, AreSpelled}
use Rattle.litmus_reading.proofs.thread.read_column.Given as goal

-- what spells the rest spells, behind what has been read, all
abbrev pub invariant-loop-rest : goal.invariant-loop-rest
invariant-loop-rest l = record {
  steps : (more : List Written) → AreSpelled l.text (instructions_of (column_of l.hart l.rest)) more
      → AreSpelled l.text (instructions_of (column_of l.hart l.rows)) (l.steps.items ++ more);
  labels : l.labels.items ++ labels_from (length l.steps.items) (column_of l.hart l.rest)
      ≡ labels_from 0 (column_of l.hart l.rows);
  once : AreOnce l.text l.labels.items (labels_from (length l.steps.items) (column_of l.hart l.rest))
      → AreOnce l.text [] (labels_from 0 (column_of l.hart l.rows));
  left : (all : List Written) → AreSpelled l.text (instructions_of (column_of l.hart l.rows)) all
      → length all ≤ most_steps → Left l.text (column_of l.hart l.rest) l.steps.items all;
  once_left : AreOnce l.text [] (labels_from 0 (column_of l.hart l.rows))
      → AreOnce l.text l.labels.items (labels_from (length l.steps.items) (column_of l.hart l.rest));
}

abbrev pub decreases-loop-rest : goal.decreases-loop-rest
decreases-loop-rest l = length l.rest
