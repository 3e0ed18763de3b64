-- What holds below a number and at it; and of an answer of which two things hold.
use Rattle.std.specs.Prelude.{◌≡◌, ℕ, ◌+◌, ◌<◌, ◌==◌}
use Rattle.std.specs.Prelude.{Result, Ok, Err, IfOk}
use Rattle.std.proofs.Common.{subst, inl, inr, arith}
use Rattle.std.proofs.{lemmas.Bool.cases_Bool, lemmas.Bool.Decides.nat_tests}

pub one_more : (P : ℕ → Type 0) (n : ℕ) → ((i : ℕ) → i < n → P i) → P n → (i : ℕ) → i < n + 1 → P i
one_more P n before now i below =
    elim (cases_Bool (i == n)) [
      | inl same ↦ let is : n ≡ i = grind (arith, nat_tests) in subst P is now
      | inr other ↦ before i (grind (arith, nat_tests))
    ]

-- What follows of two facts of an answer.
pub from_both : {T E : Type 0} → (r : Result T E) (P Q S : T → Type 0) → IfOk r P → IfOk r Q
    → ((x : T) → P x → Q x → S x) → IfOk r S
from_both (Ok x) P Q S p q follows = follows x p q
from_both (Err e) P Q S p q follows = tt
