-- When a list of reasons names none, and what lists of numbers say of a test.
use Rattle.std.specs.Prelude.{◌≡◌, ◌↔◌, ℕ, ◌==◌, ◌&&◌, ◌||◌, not, Bool, true, false, List, [], ◌∷◌, length, Option, Some}
use Rattle.std.specs.Prelude.{None}
use Rattle.std.specs.List.{list_all, list_any}
use Rattle.std.proofs.Common.{◌∙◌, refl, sym, ap, subst, inl, inr, arith}
use Rattle.std.proofs.{lemmas.Bool.cases_Bool, lemmas.Bool.Decides.nat_tests}
use Rattle.smt_model.specs.Basics.{first, or_else}
use Rattle.smt_model.proofs.Lists.{member}
use Rattle.reasons.specs.{declared.reason.Reason.Reason, Reasons.named, Reasons.first_named}

-- ---- Reasons

abbrev pub NoneHolds : List (Option Reason) → Type 0
NoneHolds [] = Unit {0}
NoneHolds (o ∷ others) = (o ≡ None) × NoneHolds others

pub none_named : (os : List (Option Reason)) → NoneHolds os → first_named os ≡ None
none_named [] all = refl
none_named (o ∷ others) all = ap (λ x. or_else x (first_named others)) all.0 ∙ none_named others all.1

behind : (o later : Option Reason) → or_else o later ≡ None → (o ≡ None) × (later ≡ None)
behind None later none = (refl, none)
behind (Some r) later none = absurd (grind arith)

pub named_none : (os : List (Option Reason)) → first_named os ≡ None → NoneHolds os
named_none [] none = tt
named_none (o ∷ others) none =
    let both = behind o (first_named others) none in
    (both.0, named_none others both.1)

pub unnamed : (b : Bool) (r : Reason) → b ≡ false → named b r ≡ None
unnamed b r fails = rw fails refl

pub fails : (b : Bool) (r : Reason) → named b r ≡ None → b ≡ false
fails true r none = absurd (grind arith)
fails false r none = refl

-- ---- Tests

pub not_false : (b : Bool) → b ≡ true → not b ≡ false
not_false b is = rw is refl

pub not_true : (b : Bool) → not b ≡ false → b ≡ true
not_true true is = refl
not_true false is = absurd (grind arith)

-- ---- Lists

pub not_empty : (xs : List ℕ) (n : ℕ) → first xs ≡ Some n → (length xs == 0) ≡ false
not_empty [] n found = absurd (grind arith)
not_empty (x ∷ xs) n found = grind (arith, nat_tests)

pub record HasFirst (xs : List ℕ) : Type 0 where
  pub number : ℕ
  pub is : first xs ≡ Some number

pub first_of : (xs : List ℕ) → (length xs == 0) ≡ false → HasFirst xs
first_of [] some = absurd (grind (arith, nat_tests))
first_of (x ∷ xs) some = record { number = x; is = refl }

pub first_there : (xs : List ℕ) (n : ℕ) → member n xs ≡ true → HasFirst xs
first_there [] n there = absurd (grind arith)
first_there (x ∷ xs) n there = record { number = x; is = refl }

-- A member that fails a test.
pub record Fails (test : ℕ → Bool) (xs : List ℕ) : Type 0 where
  pub number : ℕ
  pub there : member number xs ≡ true
  pub failed : test number ≡ false

behind_member : (x n : ℕ) (xs : List ℕ) → member n xs ≡ true → member n (x ∷ xs) ≡ true
behind_member x n xs m = grind (arith, nat_tests)

pub not_all : (test : ℕ → Bool) (xs : List ℕ) → list_all test xs ≡ false → Fails test xs
not_all test [] some_fail = absurd (grind arith)
not_all test (x ∷ xs) some_fail =
    elim (cases_Bool (test x)) [
      | inl passes ↦
          let rest = not_all test xs (sym (rw passes refl) ∙ some_fail) in
          record { number = rest.number; there = behind_member x rest.number xs rest.there; failed = rest.failed }
      | inr failed ↦ record { number = x; there = grind (arith, nat_tests); failed = failed }
    ]

pub one_fails : (test : ℕ → Bool) (xs : List ℕ) (n : ℕ) → member n xs ≡ true → test n ≡ false
    → list_all test xs ≡ false
one_fails test [] n there failed = absurd (grind arith)
one_fails test (x ∷ xs) n there failed =
    elim (cases_Bool (x == n)) [
      | inl here ↦
          let same : x ≡ n = grind (arith, nat_tests) in
          let wrong : test x ≡ false = subst (λ y. test y ≡ false) (sym same) failed in
          rw wrong refl
      | inr later ↦
          let rest = one_fails test xs n (grind arith) failed in
          elim (cases_Bool (test x)) [ inl passes ↦ rw (passes, rest) refl | inr wrong ↦ rw wrong refl ]
    ]

pub all_from : (test : ℕ → Bool) (xs : List ℕ) → ((n : ℕ) → member n xs ≡ true → test n ≡ true)
    → list_all test xs ≡ true
all_from test [] each = refl
all_from test (x ∷ xs) each =
    let here : test x ≡ true = each x (grind (arith, nat_tests)) in
    rw here (all_from test xs (λ n m. each n (behind_member x n xs m)))

-- A member that passes a test.
pub record Passes (test : ℕ → Bool) (xs : List ℕ) : Type 0 where
  pub number : ℕ
  pub there : member number xs ≡ true
  pub passed : test number ≡ true

pub any_passes : (test : ℕ → Bool) (xs : List ℕ) → list_any test xs ≡ true → Passes test xs
any_passes test [] some = absurd (grind arith)
any_passes test (x ∷ xs) some =
    elim (cases_Bool (test x)) [
      | inl here ↦ record { number = x; there = grind (arith, nat_tests); passed = here }
      | inr later ↦
          let rest = any_passes test xs (sym (rw later refl) ∙ some) in
          record { number = rest.number; there = behind_member x rest.number xs rest.there; passed = rest.passed }
    ]

pub any_from : (test : ℕ → Bool) (xs : List ℕ) (n : ℕ) → member n xs ≡ true → test n ≡ true
    → list_any test xs ≡ true
any_from test [] n there passed = absurd (grind arith)
any_from test (x ∷ xs) n there passed =
    elim (cases_Bool (test x)) [
      | inl here ↦ rw here refl
      | inr other ↦
          let apart : (x == n) ≡ false =
          elim (cases_Bool (x == n)) [
            | inl same ↦
                let it : x ≡ n = grind (arith, nat_tests) in
                let both : false ≡ true = sym other ∙ subst (λ y. test y ≡ true) (sym it) passed in
                absurd (grind arith)
            | inr apart ↦ apart
          ] in
          rw other (any_from test xs n (grind arith) passed)
    ]
