use Rattle.actors.specs.Naming.{Fits}
use Rattle.actors.proofs.actor.act.Given as goal

-- the seat is the actor's, and has posted no more than the pass has counted
abbrev pub invariant-loop-turn : goal.invariant-loop-turn
invariant-loop-turn g l = Fits l.pass.actor l.pass.count l.placed.seat.place l.placed.seat.posted
