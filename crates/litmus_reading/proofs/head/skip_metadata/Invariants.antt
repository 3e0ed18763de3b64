use Rattle.std.proofs.Common.{ℕ, true, ◌-◌, ◌≤◌, length}
use Rattle.litmus_reading.specs.Heads.{IsMetadata}
use Rattle.litmus_reading.proofs.head.skip_metadata.Given as goal

-- what stands from here on stands, behind what was read, from the beginning on, and the other way round
abbrev pub invariant-loop-at : goal.invariant-loop-at
invariant-loop-at l = record {
  inside : l.at ≤ length l.text;
  metadata : (to : ℕ) → IsMetadata l.text l.may_quote l.at to → IsMetadata l.text true l.from to;
  only : (to : ℕ) → IsMetadata l.text true l.from to → IsMetadata l.text l.may_quote l.at to;
}

abbrev pub decreases-loop-at : goal.decreases-loop-at
decreases-loop-at l = length l.text - l.at
