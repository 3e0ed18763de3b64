use Rattle.std.proofs.Common.{◌≡◌, length, map}
use Rattle.smt_model.specs.Basics.{below}
use Rattle.sc_machine.specs.Machine.{InEachState}
use Rattle.plain_run.proofs.order.statuses_of.Given as goal

-- the statuses of the harts below this one
abbrev pub invariant-loop-hart : goal.invariant-loop-hart
invariant-loop-hart l =
    (length l.statuses.items ≡ l.hart)
    × InEachState l.machine (λ setup s. l.statuses.items ≡ map s.statuses (below l.hart))
