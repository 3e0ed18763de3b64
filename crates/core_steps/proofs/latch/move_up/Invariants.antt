use Rattle.std.proofs.Common.{◌≡◌, ◌++◌, take, drop}
use Rattle.std.specs.Prelude.{remove}
use Rattle.core_steps.proofs.latch.move_up.Given as goal

-- those before this place have moved up, and the others haven't
abbrev pub invariant-loop-place : goal.invariant-loop-place
invariant-loop-place l = l.slots ≡ take l.place (remove l.initial.slots 0) ++ drop l.place l.initial.slots
