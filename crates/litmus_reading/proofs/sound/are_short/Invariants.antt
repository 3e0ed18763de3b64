use Rattle.std.proofs.Common.{◌≡◌, ◌≤◌, ◌*◌, take}
use Rattle.std.specs.Prelude.{sum_by}
use Rattle.litmus_tests.specs.WellFormed.{thread_length}
use Rattle.litmus_reading.proofs.sound.are_short.Given as goal

-- the words of the harts so far
abbrev pub invariant-loop-hart : goal.invariant-loop-hart
invariant-loop-hart l = record {
  counted : l.words ≡ sum_by thread_length (take l.hart l.threads);
  small : l.words ≤ 1064 * l.hart;
}
