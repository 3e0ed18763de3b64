-- The first of some numbers.
use Rattle.std.proofs.Common.{◌≡◌, ◌<◌, ◌+◌, ℕ, arith, subst}
use Rattle.std.specs.Prelude.{nat_lt}
use Rattle.std.proofs.lemmas.Bool.{cases_Bool}
use mathlib.Core.Logic.{inl, inr, ◌⊎◌}

at_or_before : (m i : ℕ) → m < i + 1 → (m < i) ⊎ (m ≡ i)
at_or_before m i below = elim (cases_Bool (nat_lt m i)) [
  | inl earlier ↦ inl (grind (arith, earlier))
  | inr later ↦ inr (grind (arith, below, later))
]

-- None before i is so, and i isn't: none before the next is.
pub none_yet : (Is : ℕ → Type 0) (i : ℕ) → ((m : ℕ) → m < i → Is m → ⊥) → (Is i → ⊥) → (m : ℕ) → m < i + 1 → Is m → ⊥
none_yet Is i before at m below is = elim (at_or_before m i below) [
  | inl earlier ↦ before m earlier is
  | inr same ↦ at (subst Is same is)
]
