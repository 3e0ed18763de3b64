use Rattle.std.proofs.Common.{◌≤◌}
use Rattle.std.specs.Vec.{vec_capacity}
use Rattle.shared_memory.proofs.Starting.{IsLaid}
use Rattle.shared_memory.proofs.laid.first_bytes.Given as goal

-- the segments so far, with zeros before each
abbrev pub invariant-loop-segment : goal.invariant-loop-segment
invariant-loop-segment l = IsLaid l.image l.bytes.items l.segment-index × (l.image.ram ≤ vec_capacity l.bytes)
