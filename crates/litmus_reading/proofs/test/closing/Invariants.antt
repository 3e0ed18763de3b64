use Rattle.std.proofs.Common.{◌≡◌, ◌≤◌, Some, take}
use Rattle.litmus_reading.specs.Texts.{open_after}
use Rattle.litmus_reading.proofs.test.closing.Given as goal

-- so many are open behind the words so far
abbrev pub invariant-loop-place : goal.invariant-loop-place
invariant-loop-place l = record {
  few : l.depth ≤ l.place;
  after : open_after 0 (take l.place l.words) ≡ Some l.depth;
}
