use Rattle.std.specs.Prelude.{◌≡◌, ◌<◌, ℕ, Some, slice_get}
use Rattle.core_lock.specs.Passes.{IsTold}
use Rattle.core_lock.proofs.held.agreement.are_told.Given as goal

-- each pass so far lies at its place, and was told all
abbrev pub invariant-loop-place : goal.invariant-loop-place
invariant-loop-place g l = (k : ℕ) → k < l.place → (p : _) → slice_get l.passes k ≡ Some p
    → (p.actor ≡ k) × IsTold l.core.past p.actor p.count p.last
