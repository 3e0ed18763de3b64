use Rattle.std.proofs.Common.{◌≡◌, ◌++◌, take}
use Rattle.outcomes.specs.Told.{moved}
use Rattle.outcomes.proofs.outcomes.push_moves.Given as goal

-- the moves before this one are made
abbrev pub invariant-loop-step : goal.invariant-loop-step
invariant-loop-step l = l.order.items ≡ l.fn.order.items ++ moved l.rows l.harts (take l.step-index l.moves)
