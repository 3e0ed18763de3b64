use Rattle.std.proofs.Common.{◌<◌}
use Rattle.outcomes.proofs.first_jumps.next_going.Given as goal

-- the hart is there
abbrev pub invariant-loop-tried : goal.invariant-loop-tried
invariant-loop-tried l = l.hart < l.harts
