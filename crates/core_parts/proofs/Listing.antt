-- Lists of the numbers below n that pass a test, and the list of the registers that do.
use Rattle.std.specs.Prelude.{◌≡◌, ℕ, zero, suc, ◌+◌, ◌≤◌, Bool, true, false, List, [], ◌∷◌, ◌++◌, length, filter}
use native.Mathlib.Numerals.{unary_clauses}
use Rattle.std.proofs.Common.{◌∙◌, refl, ap, inl, inr, arith}
use Rattle.std.proofs.{lemmas.Bool.cases_Bool, lemmas.List.length_push}
use Rattle.numbers.specs.Sizes.{most_registers}
use Rattle.smt_model.specs.Basics.{below}
use Rattle.smt_model.proofs.Lists.{filter-append, filter-same}
use Rattle.core_parts.specs.Listed.{listed}

pub below_next : (n : ℕ) → below (n + 1) ≡ below n ++ n ∷ []
below_next n = simp unary_clauses refl

pub one_kept : (t : ℕ → Bool) (n : ℕ) → t n ≡ true → filter t (n ∷ []) ≡ n ∷ []
one_kept t n passes = rw passes refl

pub one_lost : (t : ℕ → Bool) (n : ℕ) → t n ≡ false → filter t (n ∷ []) ≡ []
one_lost t n fails = rw fails refl

pub nothing_behind : (xs : List ℕ) → xs ++ [] ≡ xs
nothing_behind [] = refl
nothing_behind (x ∷ xs) = ap (λ ys. x ∷ ys) (nothing_behind xs)

-- No more than n pass.
pub below_fits : (t : ℕ → Bool) (n : ℕ) → length (filter t (below n)) ≤ n
below_fits t zero = omega arith
below_fits t (suc n) =
    let rest = below_fits t n in
    let joined = ap length (filter-append t (below n) (n ∷ [])) in
    let more = length_push (filter t (below n)) n in
    elim (cases_Bool (t n)) [
      | inl passes ↦ let kept = ap (λ ys. length (filter t (below n) ++ ys)) (one_kept t n passes) in omega arith
      | inr fails ↦
          let lost = ap (λ ys. length (filter t (below n) ++ ys)) (one_lost t n fails) in
          let bare = ap length (nothing_behind (filter t (below n))) in
          omega arith
    ]

pub listed_same : (p q : ℕ → Bool) → ((x : ℕ) → p x ≡ q x) → listed p ≡ listed q
unfolding listed
listed_same p q same = filter-same p q (below most_registers) (λ x m. same x)

-- The list is whole once all registers have been looked at.
pub listed_whole : (t : ℕ → Bool) (n : ℕ) (xs : List ℕ) → n ≡ most_registers → xs ≡ filter t (below n) → xs ≡ listed t
unfolding listed
listed_whole t n xs all is = is ∙ ap (λ k. filter t (below k)) all

pub listed_fits : (t : ℕ → Bool) (n : ℕ) (xs : List ℕ) → xs ≡ filter t (below n) → length xs ≤ n
listed_fits t n xs is = rw is (below_fits t n)
