use Rattle.std.proofs.Common.{◌≡◌}
use Rattle.std.specs.Prelude.{drop, find, Some}
use Rattle.smt_model.specs.Basics.{same_number}
use Rattle.reasons.proofs.units.holder_among.Given as goal

abbrev pub invariant-loop-one : goal.invariant-loop-one
invariant-loop-one l =
    find (λ a. same_number a.phys (Some l.phys)) (drop l.one-index l.active)
    ≡ find (λ a. same_number a.phys (Some l.phys)) l.active
