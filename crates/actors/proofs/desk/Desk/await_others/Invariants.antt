use Rattle.std.proofs.Common.{◌≡◌}
use Rattle.actors.proofs.desk.Desk.await_others.Given as goal

abbrev pub invariant-loop-look : goal.invariant-loop-look
invariant-loop-look g l =
    (l.placed.seat.place ≡ l.initial.placed.seat.place) × (l.placed.seat.posted ≡ l.initial.placed.seat.posted)
