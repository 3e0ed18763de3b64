-- What is looked at, one thing more at each turn.
use Rattle.std.proofs.Common.{◌≡◌, ℕ, suc, ◌+◌, ◌-◌, ◌<◌, ◌≤◌, Bool, true, if◌then◌else◌, List, [], ◌∷◌, ◌++◌, length, refl, sym, ap, ◌∙◌, subst, arith, append_assoc, append-nil, length-append}
use Rattle.std.specs.List.{filter}
use Rattle.std.proofs.lemmas.List.Elements.{filter-append}
use Rattle.litmus_tests.specs.declared.condition.Observed.{Observed}
use Rattle.litmus_tests.specs.declared.condition.Observed.TheVariants.{Register, Location}
use Rattle.litmus_tests.specs.declared.condition.Condition.{Condition}
use Rattle.litmus_tests.specs.Limits.{most_observed}
use Rattle.litmus_reading.specs.Looked.{harts_from, is_named, looked_at, registers_from, those_named}
use Rattle.litmus_reading.specs.Questions.{elements_from}

-- some at the front are told
front_told : (p : Observed → Bool) (front rest all before after : List Observed)
    → before ++ filter p (front ++ rest) ≡ all → after ≡ before ++ filter p front → after ++ filter p rest ≡ all
front_told p front rest all before after so_far is =
    ap (λ (t : List Observed). t ++ filter p rest) is ∙ append_assoc before (filter p front) (filter p rest)
    ∙ ap (λ (t : List Observed). before ++ t) (sym (filter-append p front rest)) ∙ so_far

-- no more are told than there may be
few_told : (p : Observed → Bool) (front rest all before : List Observed)
    → before ++ filter p (front ++ rest) ≡ all → length all ≤ most_observed
    → length (before ++ filter p front) ≤ most_observed
few_told p front rest all before so_far few =
    let total : length before + (length (filter p front) + length (filter p rest)) ≡ length all =
    ap (λ (n : ℕ). length before + n) (sym (length-append (filter p front) (filter p rest)))
    ∙ ap (λ (t : List Observed). length before + length t) (sym (filter-append p front rest))
    ∙ sym (length-append before (filter p (front ++ rest))) ∙ ap (λ (t : List Observed). length t) so_far in
    let here : length (before ++ filter p front) ≡ length before + length (filter p front) =
    length-append before (filter p front) in
    omega (arith, total, here, few)

-- one that is named is one more
pub one_told : (p : Observed → Bool) (one : Observed) (before : List Observed) → p one ≡ true
    → length (before ++ filter p (one ∷ [])) ≤ most_observed → length before < most_observed
one_told p one before named few =
    let here : length (before ++ filter p (one ∷ [])) ≡ length before + 1 =
    length-append before (filter p (one ∷ []))
    ∙ ap (λ (b : Bool). length before + length (if b then one ∷ [] else [])) named in
    omega (arith, here, few)

module _ (condition filters : Condition) (listed : List Observed) where
  pub register_told : (hart register : ℕ) (all before after : List Observed) → register < 32
      → before ++ those_named condition filters listed (registers_from (32 - register) hart register) ≡ all
      → after ≡ before ++ those_named condition filters listed (Register hart register ∷ [])
      → after ++ those_named condition filters listed (registers_from (32 - (register + 1)) hart (register + 1)) ≡ all
  register_told hart register all before after inside so_far is =
      let left : 32 - register ≡ suc (32 - (register + 1)) = omega (arith, inside) in
      front_told (is_named condition filters listed) (Register hart register ∷ [])
      (registers_from (32 - (register + 1)) hart (register + 1)) all before after
      (ap (λ (n : ℕ). before ++ those_named condition filters listed (registers_from n hart register)) (sym left)
      ∙ so_far) is

  pub register_few : (hart register : ℕ) (all before : List Observed) → register < 32
      → before ++ those_named condition filters listed (registers_from (32 - register) hart register) ≡ all
      → length all ≤ most_observed
      → length (before ++ those_named condition filters listed (Register hart register ∷ [])) ≤ most_observed
  register_few hart register all before inside so_far few =
      let left : 32 - register ≡ suc (32 - (register + 1)) = omega (arith, inside) in
      few_told (is_named condition filters listed) (Register hart register ∷ [])
      (registers_from (32 - (register + 1)) hart (register + 1)) all before
      (ap (λ (n : ℕ). before ++ those_named condition filters listed (registers_from n hart register)) (sym left)
      ∙ so_far) few

  pub registers_told : (hart register : ℕ) (all before : List Observed) → 32 ≤ register
      → before ++ those_named condition filters listed (registers_from (32 - register) hart register) ≡ all
      → before ≡ all
  registers_told hart register all before past so_far =
      let nothing : 32 - register ≡ 0 = omega (arith, past) in
      sym (append-nil before)
      ∙ ap (λ (n : ℕ). before ++ those_named condition filters listed (registers_from n hart register)) (sym nothing)
      ∙ so_far

  pub location_told : (count index : ℕ) (all before after : List Observed) → index < count
      → before ++ those_named condition filters listed (elements_from (count - index) index) ≡ all
      → after ≡ before ++ those_named condition filters listed (Location index ∷ [])
      → after ++ those_named condition filters listed (elements_from (count - (index + 1)) (index + 1)) ≡ all
  location_told count index all before after inside so_far is =
      let left : count - index ≡ suc (count - (index + 1)) = omega (arith, inside) in
      front_told (is_named condition filters listed) (Location index ∷ [])
      (elements_from (count - (index + 1)) (index + 1)) all before after
      (ap (λ (n : ℕ). before ++ those_named condition filters listed (elements_from n index)) (sym left)
      ∙ so_far) is

  pub location_few : (count index : ℕ) (all before : List Observed) → index < count
      → before ++ those_named condition filters listed (elements_from (count - index) index) ≡ all
      → length all ≤ most_observed
      → length (before ++ those_named condition filters listed (Location index ∷ [])) ≤ most_observed
  location_few count index all before inside so_far few =
      let left : count - index ≡ suc (count - (index + 1)) = omega (arith, inside) in
      few_told (is_named condition filters listed) (Location index ∷ [])
      (elements_from (count - (index + 1)) (index + 1)) all before
      (ap (λ (n : ℕ). before ++ those_named condition filters listed (elements_from n index)) (sym left)
      ∙ so_far) few

  pub locations_told : (count index : ℕ) (all before : List Observed) → count ≤ index
      → before ++ those_named condition filters listed (elements_from (count - index) index) ≡ all → before ≡ all
  locations_told count index all before past so_far =
      let nothing : count - index ≡ 0 = omega (arith, past) in
      sym (append-nil before)
      ∙ ap (λ (n : ℕ). before ++ those_named condition filters listed (elements_from n index)) (sym nothing)
      ∙ so_far

  pub hart_told : (harts hart : ℕ) (all before after : List Observed) → hart < harts
      → before ++ those_named condition filters listed (harts_from (harts - hart) hart) ≡ all
      → after ≡ before ++ those_named condition filters listed (registers_from 31 hart 1)
      → after ++ those_named condition filters listed (harts_from (harts - (hart + 1)) (hart + 1)) ≡ all
  hart_told harts hart all before after inside so_far is =
      let left : harts - hart ≡ suc (harts - (hart + 1)) = omega (arith, inside) in
      front_told (is_named condition filters listed) (registers_from 31 hart 1)
      (harts_from (harts - (hart + 1)) (hart + 1)) all before after
      (ap (λ (n : ℕ). before ++ those_named condition filters listed (harts_from n hart)) (sym left) ∙ so_far) is

  pub hart_few : (harts hart locations : ℕ) (before : List Observed) → hart < harts
      → before ++ those_named condition filters listed (harts_from (harts - hart) hart)
      ≡ those_named condition filters listed (harts_from harts 0)
      → length (looked_at condition filters listed harts locations) ≤ most_observed
      → length (before ++ those_named condition filters listed (registers_from 31 hart 1)) ≤ most_observed
  hart_few harts hart locations before inside so_far few =
      let left : harts - hart ≡ suc (harts - (hart + 1)) = omega (arith, inside) in
      few_told (is_named condition filters listed) (registers_from 31 hart 1)
      (harts_from (harts - (hart + 1)) (hart + 1)) (those_named condition filters listed (harts_from harts 0)) before
      (ap (λ (n : ℕ). before ++ those_named condition filters listed (harts_from n hart)) (sym left) ∙ so_far)
      (few_told (is_named condition filters listed) (harts_from harts 0) (elements_from locations 0)
      (looked_at condition filters listed harts locations) [] refl few)

  pub harts_told : (harts hart : ℕ) (before : List Observed) → harts ≤ hart
      → before ++ those_named condition filters listed (harts_from (harts - hart) hart)
      ≡ those_named condition filters listed (harts_from harts 0)
      → before ≡ those_named condition filters listed (harts_from harts 0)
  harts_told harts hart before past so_far =
      let nothing : harts - hart ≡ 0 = omega (arith, past) in
      sym (append-nil before)
      ∙ ap (λ (n : ℕ). before ++ those_named condition filters listed (harts_from n hart)) (sym nothing) ∙ so_far

  pub locations_few : (harts hart locations : ℕ) (before : List Observed) → harts ≤ hart
      → before ++ those_named condition filters listed (harts_from (harts - hart) hart)
      ≡ those_named condition filters listed (harts_from harts 0)
      → length (looked_at condition filters listed harts locations) ≤ most_observed
      → length (before ++ those_named condition filters listed (elements_from locations 0)) ≤ most_observed
  locations_few harts hart locations before past so_far few =
      let first = harts_told harts hart before past so_far in
      subst (λ (t : List Observed). length t ≤ most_observed)
      (filter-append (is_named condition filters listed) (harts_from harts 0) (elements_from locations 0)
      ∙ ap (λ (t : List Observed). t ++ those_named condition filters listed (elements_from locations 0)) (sym first))
      few

  pub all_told : (harts hart locations : ℕ) (before after : List Observed) → harts ≤ hart
      → before ++ those_named condition filters listed (harts_from (harts - hart) hart)
      ≡ those_named condition filters listed (harts_from harts 0)
      → after ≡ before ++ those_named condition filters listed (elements_from locations 0)
      → after ≡ looked_at condition filters listed harts locations
  all_told harts hart locations before after past so_far is =
      let first = harts_told harts hart before past so_far in
      is ∙ ap (λ (t : List Observed). t ++ those_named condition filters listed (elements_from locations 0)) first
      ∙ sym (filter-append (is_named condition filters listed) (harts_from harts 0) (elements_from locations 0))
