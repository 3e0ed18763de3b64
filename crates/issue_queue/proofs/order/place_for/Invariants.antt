use Rattle.std.specs.Prelude.{drop}
use Rattle.issue_queue.specs.Order.{AreAbove}
use Rattle.issue_queue.proofs.order.place_for.Given as goal

-- those from here on have a higher number
abbrev pub invariant-loop-place : goal.invariant-loop-place
invariant-loop-place l = AreAbove l.seq (drop l.place l.order)
