use Rattle.std.proofs.Common.{◌≡◌, ◌≤◌, length}
use Rattle.std.specs.Prelude.{filter}
use Rattle.smt_model.specs.{Basics.below, Plain.is_going_status}
use Rattle.sc_machine.specs.Machine.{InEachState}
use Rattle.rounds.proofs.next.going_harts.Given as goal

-- those of the harts below this one that go
abbrev pub invariant-loop-hart : goal.invariant-loop-hart
invariant-loop-hart l =
    (length l.going.items ≤ l.hart)
    × InEachState l.machine
    (λ setup s. l.going.items ≡ filter (λ h. is_going_status (s.statuses h)) (below l.hart))
