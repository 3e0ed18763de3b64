use Rattle.std.proofs.Common.{◌≡◌, ◌==◌, find, drop}
use Rattle.retire_squash.specs.Ring.{in_ring}
use Rattle.retire_squash.proofs.ring.search.Given as goal

abbrev pub invariant-loop-steps : goal.invariant-loop-steps
invariant-loop-steps l =
    find (λ x. x.seq == l.seq) (drop l.steps (in_ring l.first l.count l.places))
    ≡ find (λ x. x.seq == l.seq) (in_ring l.first l.count l.places)
