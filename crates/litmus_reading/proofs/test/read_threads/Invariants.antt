use Rattle.std.proofs.Common.{◌≡◌, ◌≤◌, List, ◌++◌, length}
use Rattle.std.specs.Prelude.{All}
use Rattle.litmus_tests.specs.Limits.{most_steps}
use Rattle.litmus_tests.specs.declared.test.Thread.{Thread}
use Rattle.litmus_reading.specs.Texts.{AreThreads}
use Rattle.litmus_reading.proofs.Alike.{LeftThreads}
use Rattle.litmus_reading.proofs.test.read_threads.Given as goal

-- those of the harts that are left are, behind those so far, all; and those that are the text's begin with those so far
abbrev pub invariant-loop-hart : goal.invariant-loop-hart
invariant-loop-hart l = record {
  count : length l.threads.items ≡ l.hart;
  are : (more : List Thread) → AreThreads l.text l.rows l.entries l.hart more
      → AreThreads l.text l.rows l.entries 0 (l.threads.items ++ more);
  left : (all : List Thread) → AreThreads l.text l.rows l.entries 0 all → length all ≡ l.harts
      → All (λ (thread : Thread). length thread.steps.items ≤ most_steps) all
      → LeftThreads l.text l.rows l.entries l.hart all l.threads.items;
}
