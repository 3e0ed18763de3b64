-- A relation of each two elements of a list, whatever their order.
use Rattle.std.proofs.Common.{◌≡◌, ℕ, ◌<◌, ◌==◌, cond, List, length, get_or, sym, subst, arith, inl, inr}
use Rattle.std.specs.Prelude.{AllPairs, IsPermutation, swap}
use Rattle.std.proofs.{lemmas.Bool.cases_lt, lemmas.Bool.Decides.nat_tests, lemmas.List.Edits.swap_is}
use Rattle.std.proofs.{lemmas.List.Edits.length-swap, lemmas.List.Sorted.IsPermutation-keeps, lemmas.Grind.common_steps}

abbrev pub AnyPairs : {X : Type 0} → (X → X → Type 0) → X → List X → Type 0
AnyPairs {X} R d xs = (p q : ℕ) → (p ≡ q → ⊥) → p < length xs → q < length xs → R (get_or xs p d) (get_or xs q d)

-- where the element at p stood before two were exchanged
partner : ℕ → ℕ → ℕ → ℕ
partner i j p = cond (p == i) j (cond (p == j) i p)

partner-distinct : (i j p q : ℕ) → (p ≡ q → ⊥) → partner i j p ≡ partner i j q → ⊥
unfolding partner
partner-distinct i j p q apart same = grind (arith, nat_tests)

partner-below : (i j p n : ℕ) → i < n → j < n → p < n → partner i j p < n
unfolding partner
partner-below i j p n a b c = grind (arith, nat_tests)

get_or-swap : {X : Type 0} (xs : List X) (i j p : ℕ) (d : X) → i < length xs → j < length xs → p < length xs
    → get_or (swap xs i j) p d ≡ get_or xs (partner i j p) d
unfolding partner
get_or-swap xs i j p d a b c = rw (← swap_is xs i j d a b) (grind (arith, nat_tests, common_steps))

AnyPairs-swap : {X : Type 0} (R : X → X → Type 0) (d : X) (xs : List X) (i j : ℕ) → i < length xs → j < length xs
    → AnyPairs R d xs → AnyPairs R d (swap xs i j)
AnyPairs-swap {X} R d xs i j a b all p q apart inside within =
    let n : length (swap xs i j) ≡ length xs = length-swap xs i j in
    let left : p < length xs = omega arith in
    let right : q < length xs = omega arith in
    let old = all (partner i j p) (partner i j q) (partner-distinct i j p q apart)
    (partner-below i j p (length xs) a b left) (partner-below i j q (length xs) a b right) in
    subst (λ (x : X). R x (get_or (swap xs i j) q d)) (sym (get_or-swap xs i j p d a b left))
    (subst (λ (y : X). R (get_or xs (partner i j p) d) y) (sym (get_or-swap xs i j q d a b right)) old)

AnyPairs-from_pairs : {X : Type 0} (R : X → X → Type 0) → ((x y : X) → R x y → R y x) → (d : X) (xs : List X)
    → AllPairs R xs → AnyPairs R d xs
AnyPairs-from_pairs R turn d xs pairs p q apart inside within =
    elim (cases_lt p q) [
      | inl less ↦ pairs p q d less within
      | inr more ↦ turn _ _ (pairs q p d (omega arith) inside)
    ]

-- it is kept in any other order
pub AllPairs-permutation : {X : Type 0} (R : X → X → Type 0) → ((x y : X) → R x y → R y x) → (xs ys : List X)
    → IsPermutation xs ys → AllPairs R xs → AllPairs R ys
AllPairs-permutation R turn xs ys moved pairs i j d less inside =
    IsPermutation-keeps xs (AnyPairs R d) (AnyPairs-from_pairs R turn d xs pairs)
    (λ l a b. AnyPairs-swap R d l a b) ys moved i j
    (λ same. omega (arith, same)) (omega arith) inside
