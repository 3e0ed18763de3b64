use Rattle.std.proofs.Common.{◌≤◌}
use Rattle.stuck_harts.specs.Turns.{GoesUpTo}
use Rattle.stuck_harts.proofs.turns.go_up_to.Given as goal

-- the harts so far have made their steps
abbrev pub invariant-loop-hart : goal.invariant-loop-hart
invariant-loop-hart l = GoesUpTo l.from l.hart l.fn.machine l.machine × (l.from ≤ l.to → l.hart ≤ l.to)
