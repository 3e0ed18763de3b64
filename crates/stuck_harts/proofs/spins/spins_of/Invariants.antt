use Rattle.std.proofs.Common.{◌<◌}
use Rattle.sc_machine.specs.Machine.{InEachState}
use Rattle.stuck_harts.proofs.Watching.{HasWatched}
use Rattle.stuck_harts.proofs.spins.spins_of.Given as goal

-- in so many turns this was shown
abbrev pub invariant-loop-turn : goal.invariant-loop-turn
invariant-loop-turn l = InEachState l.fn.machine
    (λ setup s. l.hart < setup.harts → HasWatched setup s l.hart l.turn l.shown.items l.machine)
