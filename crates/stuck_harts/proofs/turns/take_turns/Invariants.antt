use Rattle.sc_machine.specs.Machine.{Agrees, InEachState}
use Rattle.stuck_harts.specs.Turns.{turns}
use Rattle.stuck_harts.proofs.turns.take_turns.Given as goal

-- so many turns are taken
abbrev pub invariant-loop-turn : goal.invariant-loop-turn
invariant-loop-turn l = InEachState l.fn.machine (λ setup s. Agrees setup (turns setup l.turn s) l.machine)
