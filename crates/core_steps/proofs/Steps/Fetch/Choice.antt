-- The choice of the hart to fetch: two passes over the harts in turn find the one that the history's definition names.
use Rattle.std.specs.Prelude.{◌≡◌, ℕ, zero, suc, ◌+◌, ◌<◌, ◌≤◌, Bool, true, false, not, nat_lt, nat_le, if◌then◌else◌}
use Rattle.std.specs.Prelude.{List, [], ◌∷◌, ◌++◌, length, Option, Some, None}
use Rattle.std.specs.List.{filter}
use Rattle.std.proofs.Common.{◌∙◌, refl, sym, ap, inl, inr, arith, add-one}
use Rattle.std.proofs.{lemmas.Bool.cases_Bool, lemmas.Bool.cases_lt, lemmas.Bool.Decides.nat_tests}
use Rattle.std.proofs.{lemmas.List.append-nil}
use Rattle.smt_model.specs.{Basics.below, Basics.first_least, Basics.least_from, Fetching.is_after, Fetching.turn}
use Rattle.smt_model.proofs.{Lists.filter-same, Lists.filter-append, Lists.filter-none, Registers.Claims.member-below}
use Rattle.core_steps.specs.Fetch.{may_fetch_at, count_at, next_hart, is_better, better_of, from_to}
use Rattle.core_parts.specs.declared.hart.HartState.{HartState}

-- ---- A pass over the harts

better-append : (harts : List HartState) (best : Option ℕ) (xs ys : List ℕ)
    → better_of harts best (xs ++ ys) ≡ better_of harts (better_of harts best xs) ys
better-append harts best [] ys = refl
better-append harts best (x ∷ xs) ys = better-append harts (if is_better harts x best then Some x else best) xs ys

from_to-more : (from i : ℕ) → from ≤ i → from_to from (i + 1) ≡ from_to from i ++ i ∷ []
from_to-more from i upto =
    let passes : nat_le from i ≡ true = grind (arith, nat_tests) in
    rw (add-one i) (filter-append (nat_le from) (below i) (i ∷ []) ∙ rw passes refl)

pub better-more : (harts : List HartState) (best : Option ℕ) (from i : ℕ) → from ≤ i
    → better_of harts best (from_to from (i + 1))
    ≡ (if is_better harts i (better_of harts best (from_to from i)) then Some i
    else better_of harts best (from_to from i))
better-more harts best from i upto =
    ap (better_of harts best) (from_to-more from i upto) ∙ better-append harts best (from_to from i) (i ∷ [])

from_to-none : (from i : ℕ) → i ≤ from → from_to from i ≡ []
from_to-none from i under =
    filter-none (nat_le from) (below i) (λ x inside. let low = member-below i x inside in grind (arith, nat_tests))

-- ---- A pass is the least of those that may be fetched

better-some : (harts : List HartState) (best : ℕ) (xs : List ℕ)
    → better_of harts (Some best) xs ≡ Some (least_from (count_at harts) best (filter (may_fetch_at harts) xs))
better-some harts best [] = refl
better-some harts best (x ∷ xs) =
    elim (cases_Bool (may_fetch_at harts x)) [
      | inl may ↦
          elim (cases_Bool (nat_lt (count_at harts x) (count_at harts best))) [
            | inl less ↦ rw (may, less) (better-some harts x xs)
            | inr more ↦ rw (may, more) (better-some harts best xs)
          ]
      | inr may_not ↦ rw may_not (better-some harts best xs)
    ]

better-none : (harts : List HartState) (xs : List ℕ)
    → better_of harts None xs ≡ first_least (count_at harts) (filter (may_fetch_at harts) xs)
better-none harts [] = refl
better-none harts (x ∷ xs) =
    elim (cases_Bool (may_fetch_at harts x)) [
      | inl may ↦ rw may (better-some harts x xs)
      | inr may_not ↦ rw may_not (better-none harts xs)
    ]

-- ---- The turn in two parts

after-none : (n : ℕ) → filter (is_after None) (below n) ≡ from_to 0 n
after-none n = filter-same (is_after None) (nat_le 0) (below n) (λ x inside. grind (arith, nat_tests))

before-none : (xs : List ℕ) → filter (λ h. not (is_after None h)) xs ≡ []
before-none [] = refl
before-none (x ∷ xs) = before-none xs

from_zero : (n : ℕ) → from_to 0 n ≡ below n
from_zero zero = refl
from_zero (suc n) =
    let passes : nat_le 0 n ≡ true = grind (arith, nat_tests) in
    filter-append (nat_le 0) (below n) (n ∷ []) ∙ (rw passes (ap (λ xs. xs ++ n ∷ []) (from_zero n)))

-- The first of the two parts ends where the harts do, or behind the last fetched.
pub record IsNext (n last next : ℕ) : Type 0 where
  pub inside : next ≤ n
  pub upto : next ≤ last + 1
  pub least : (next < n) → next ≡ last + 1

after-some : (n last next : ℕ) → IsNext n last next → filter (is_after (Some last)) (below n) ≡ from_to next n
after-some n last next is =
    let upto = is.upto in
    let least = is.least in
    filter-same (is_after (Some last)) (nat_le next) (below n)
    (λ x inside. let under = member-below n x inside in grind (arith, nat_tests))

filter-push : (test : ℕ → Bool) (xs : List ℕ) (n : ℕ) → test n ≡ true
    → filter test (xs ++ n ∷ []) ≡ filter test xs ++ n ∷ []
filter-push test xs n passes = filter-append test xs (n ∷ []) ∙ rw passes refl

filter-skip : (test : ℕ → Bool) (xs : List ℕ) (n : ℕ) → test n ≡ false → filter test (xs ++ n ∷ []) ≡ filter test xs
filter-skip test xs n fails = filter-append test xs (n ∷ []) ∙ (rw fails (append-nil (filter test xs)))

whole_of : (n last next : ℕ) → next ≤ suc n → (next < suc n → next ≡ last + 1) → n ≤ last → next ≡ suc n
whole_of n last next inside least early =
    elim (cases_lt next (suc n)) [ inl under ↦ let at = least under in omega arith | inr upto ↦ omega arith ]

before-some : (n last next : ℕ) → IsNext n last next → filter (λ h. not (is_after (Some last) h)) (below n) ≡ below next
before-some zero last next is =
    let none : next ≡ 0 = let inside = is.inside in omega arith in
    rw none refl
before-some (suc n) last next is =
    let inside = is.inside in
    let upto = is.upto in
    let least = is.least in
    elim (cases_lt last n) [
      | inl late ↦
          let fails : not (nat_lt last n) ≡ false = grind (arith, nat_tests) in
          let before : IsNext n last next =
          record { inside = omega arith; upto = upto; least = λ under. least (omega arith) } in
          filter-skip (λ h. not (is_after (Some last) h)) (below n) n fails
          ∙ before-some n last next before
      | inr early ↦
          let passes : not (nat_lt last n) ≡ true = grind (arith, nat_tests) in
          let before : IsNext n last n =
          record { inside = omega arith; upto = omega arith; least = λ under. omega arith } in
          let whole : next ≡ suc n = whole_of n last next inside least early in
          filter-push (λ h. not (is_after (Some last) h)) (below n) n passes
          ∙ (ap (λ xs. xs ++ n ∷ []) (before-some n last n before)
          ∙ ap below (sym whole))
    ]

-- ---- Both passes

in_two : (harts : List HartState) (ones others : List ℕ) (last : Option ℕ) → turn (length harts) last ≡ ones ++ others
    → better_of harts (better_of harts None ones) others ≡ next_hart harts last
in_two harts ones others last parts =
    sym (better-append harts None ones others) ∙ (better-none harts (ones ++ others)
    ∙ ap (λ xs. first_least (count_at harts) (filter (may_fetch_at harts) xs)) (sym parts))

both : (a b x y : List ℕ) → a ≡ x → b ≡ y → a ++ b ≡ x ++ y
both a b x y one two = cc

pub chosen_none : (harts : List HartState)
    → better_of harts (better_of harts None (from_to 0 (length harts))) (from_to 0 0) ≡ next_hart harts None
chosen_none harts =
    let n = length harts in
    in_two harts (from_to 0 n) (from_to 0 0) None
    (both (filter (is_after None) (below n)) (filter (λ h. not (is_after None h)) (below n)) (from_to 0 n) []
    (after-none n) (before-none (below n)))

pub chosen_some : (harts : List HartState) (last next : ℕ) → IsNext (length harts) last next
    → better_of harts (better_of harts None (from_to next (length harts))) (from_to 0 next)
    ≡ next_hart harts (Some last)
chosen_some harts last next is =
    let n = length harts in
    in_two harts (from_to next n) (from_to 0 next) (Some last)
    (both (filter (is_after (Some last)) (below n)) (filter (λ h. not (is_after (Some last) h)) (below n))
    (from_to next n) (from_to 0 next)
    (after-some n last next is) (before-some n last next is ∙ sym (from_zero next)))

-- No hart yet.
pub better-start : (harts : List HartState) (best : Option ℕ) (from : ℕ)
    → better_of harts best (from_to from from) ≡ best
better-start harts best from = ap (better_of harts best) (from_to-none from from (omega arith))

-- One hart more.
pub better-step : (harts : List HartState) (start : Option ℕ) (from i : ℕ) (best now : Option ℕ) (test : Bool)
    → from ≤ i
    → best ≡ better_of harts start (from_to from i) → test ≡ is_better harts i best
    → now ≡ (if test then Some i else best)
    → now ≡ better_of harts start (from_to from (i + 1))
better-step harts start from i best now test upto so_far tests chooses =
    chooses ∙ (ap (λ t. if t then Some i else best) tests
    ∙ (ap (λ b. if is_better harts i b then Some i else b) so_far ∙ sym (better-more harts start from i upto)))
