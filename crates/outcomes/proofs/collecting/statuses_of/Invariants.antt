use Rattle.std.proofs.Common.{◌≡◌, length, map}
use Rattle.smt_model.specs.Basics.{below}
use Rattle.condensed_machine.specs.Decoded.{state_of}
use Rattle.outcomes.proofs.collecting.statuses_of.Given as goal

-- the statuses of the harts below this one
abbrev pub invariant-loop-hart : goal.invariant-loop-hart
invariant-loop-hart l =
    (length l.statuses.items ≡ l.hart)
    × (l.statuses.items ≡ map (state_of l.machine l.state).statuses (below l.hart))
