use Rattle.std.proofs.Common.{◌≡◌, ◌++◌, replicate}
use Rattle.outcomes.proofs.outcomes.push_turns.Given as goal

-- so many turns are made
abbrev pub invariant-loop-turn : goal.invariant-loop-turn
invariant-loop-turn l = l.order.items ≡ l.fn.order.items ++ replicate l._turn l.hart
