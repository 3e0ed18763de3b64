-- Small facts of tests: of two, of all harts, and of all uses.
use Rattle.std.specs.Prelude.{◌≡◌, ◌≢◌, ◌⊎◌, ℕ, zero, suc, ◌<◌, Bool, true, false, not, ◌==◌, ◌&&◌, ◌||◌}
use Rattle.std.specs.Prelude.{List, [], ◌∷◌, Option, Some, None, is_some}
use Rattle.std.specs.List.{list_all}
use Rattle.std.proofs.Common.{◌∙◌, refl, sym, subst, inl, inr, arith}
use Rattle.std.proofs.{lemmas.Bool.cases_Bool, lemmas.Bool.Decides.nat_tests}
use Rattle.std.proofs.lemmas.List.Folds.{list_all-append}
use Rattle.smt_model.specs.{Basics.below}
use Rattle.outcome_laws.specs.Local.{Use}

-- ---- Small facts of tests

pub first_of_both : (a b : Bool) → (a && b) ≡ true → a ≡ true
first_of_both true b both = refl
first_of_both false b both = absurd (grind arith)

pub second_of_both : (a b : Bool) → (a && b) ≡ true → b ≡ true
second_of_both true b both = both
second_of_both false b both = absurd (grind arith)

pub both_of : (a b : Bool) → a ≡ true → b ≡ true → (a && b) ≡ true
both_of a b one two = rw (one, two) refl

pub one_of_two : (a b : Bool) → (a || b) ≡ true → (a ≡ true) ⊎ (b ≡ true)
one_of_two true b either = inl refl
one_of_two false b either = inr either

pub either_left : (a b : Bool) → a ≡ true → (a || b) ≡ true
either_left a b is = rw is refl

pub either_right : (a b : Bool) → b ≡ true → (a || b) ≡ true
either_right true b is = refl
either_right false b is = is

pub not_true : (a : Bool) → not a ≡ true → a ≡ false
not_true true none = absurd (grind arith)
not_true false none = refl

true_not : (a : Bool) → a ≡ false → not a ≡ true
true_not a none = rw none refl

pub neither : (a b : Bool) → (not a && not b) ≡ true → (a ≡ false) × (b ≡ false)
neither true b is = absurd (grind arith)
neither false true is = absurd (grind arith)
neither false false is = (refl, refl)

-- What is true only if something is true that is false, is false.
pub is_false : (a b : Bool) → (a ≡ true → b ≡ true) → b ≡ false → a ≡ false
is_false true b leads none = let now : b ≡ true = leads refl in absurd (grind arith)
is_false false b leads none = refl

pub none_put : (out : Option ℕ) → is_some out ≡ false → out ≡ None
none_put None none = refl
none_put (Some byte) none = absurd (grind arith)

pub different : (g h : ℕ) → g ≢ h → (h == g) ≡ false
different g h other =
    elim (cases_Bool (h == g)) [
      | inl same ↦ absurd (other (grind (arith, nat_tests)))
      | inr apart ↦ apart
    ]

-- ---- Tests of all harts, and of all uses

pub below_all : (p : ℕ → Bool) (n : ℕ) → ((g : ℕ) → g < n → p g ≡ true) → list_all p (below n) ≡ true
below_all p zero each = refl
below_all p (suc n) each =
    list_all-append p (below n) (n ∷ [])
    ∙ both_of (list_all p (below n)) (list_all p (n ∷ [])) (below_all p n (λ g less. each g (omega arith)))
    (both_of (p n) true (each n (omega arith)) refl)

pub below_each : (p : ℕ → Bool) (n : ℕ) → list_all p (below n) ≡ true → (g : ℕ) → g < n → p g ≡ true
below_each p zero all g less = absurd (omega arith)
below_each p (suc n) all g less =
    let both : (list_all p (below n) && list_all p (n ∷ [])) ≡ true =
    sym (list_all-append p (below n) (n ∷ [])) ∙ all in
    elim (cases_Bool (g == n)) [
      | inl last ↦
          let is : n ≡ g = grind (arith, nat_tests) in
          subst (λ k. p k ≡ true) is
          (first_of_both (p n) true (second_of_both (list_all p (below n)) (list_all p (n ∷ [])) both))
      | inr before ↦
          below_each p n (first_of_both (list_all p (below n)) (list_all p (n ∷ [])) both) g
          (grind (arith, nat_tests, less, before))
    ]

pub all_weaker : (p q : Use → Bool) (us : List Use) → ((u : Use) → p u ≡ true → q u ≡ true) → list_all p us ≡ true
    → list_all q us ≡ true
all_weaker p q [] weaker all = refl
all_weaker p q (u ∷ us) weaker all =
    both_of (q u) (list_all q us) (weaker u (first_of_both (p u) (list_all p us) all))
    (all_weaker p q us weaker (second_of_both (p u) (list_all p us) all))
