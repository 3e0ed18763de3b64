-- What stands before the first element that passes, by the place of that element.
use Rattle.std.proofs.Common.{◌≡◌, ◌≤◌, ℕ, Bool, List, length, take, Some, None}
use Rattle.std.proofs.Common.{sym, ap, arith}
use Rattle.std.specs.Prelude.{position, nat_lt}
use Rattle.std.specs.List.{before_first, position_or_len}
use Rattle.std.proofs.lemmas.Bool.{cases_Bool}
use Rattle.std.proofs.lemmas.List.{take_all}
use Rattle.std.proofs.lemmas.List.Quantifiers.{position-Some}
use Rattle.std.proofs.lemmas.List.Sums.{position_or_len_is}
use mathlib.Core.Logic.{inl, inr}

pub before_at : (p : ℕ → Bool) (xs : List ℕ) (n : ℕ) → position p xs ≡ Some n → take n xs ≡ before_first p xs
before_at p xs n there =
    let at = position-Some p xs n 0 there in
    ap (λ k. take k xs) (sym (position_or_len_is p xs n 0 (omega (arith, at.0)) at.2 (λ inside. at.1)))

none_passes : (p : ℕ → Bool) (xs : List ℕ) → position p xs ≡ None → length xs ≤ position_or_len p xs
none_passes p xs none = elim (cases_Bool (nat_lt (position_or_len p xs) (length xs))) [
  | inl passes ↦ grind (arith, none, passes)
  | inr fails ↦ grind (arith, fails)
]

pub before_none : (p : ℕ → Bool) (xs : List ℕ) → position p xs ≡ None → xs ≡ before_first p xs
before_none p xs none = sym (take_all _ xs (none_passes p xs none))
