-- How many outcomes are final states, and of how many of these a condition holds, one after another.
use Rattle.std.proofs.Common.{◌≡◌, ℕ, suc, ◌+◌, ◌<◌, ◌≤◌, ◌&&◌, Bool, true, false, List, [], ◌∷◌, ◌++◌, length, take, get_or, map}
use Rattle.std.proofs.Common.{refl, sym, ap, subst, ◌∙◌, arith, slice_get, Option, Some, count_by, cond, flat_map}
use Rattle.std.specs.{List.fold, Int.from_bool}
use Rattle.std.specs.Io.KnownBytes.{Appends}
use Rattle.std.proofs.lemmas.{Bool.cases_Bool, List.take_all}
use mathlib.Core.Logic.{inl, inr}
use Rattle.std.proofs.lemmas.List.Sums.{count_by_more_yes, count_by_more_no, count_by-le-length, length-filter}
use Rattle.std.proofs.lemmas.List.Concat.{flat_map-cons}
use Rattle.outcomes.specs.{Found.Told}
use Rattle.litmus_tests.specs.declared.test.LitmusTest.{LitmusTest}
use Rattle.litmus_tests.specs.Conditions.{holding, holds, FinalState}
use Rattle.litmus_text.specs.State.{told_line}
use Rattle.litmus_text.specs.States.{state_of, states_in, told_in, passes, holds_of, is_held, line_if}
use Rattle.text_fields.proofs.Appending.{flat_step, member}

-- A turn of a loop that counts.
module _ (p : Told → Bool) (listed : List Told) (i n : ℕ) (b : Bool) (below : i < n) (count : n ≡ length listed)
    (is : (told : Told) → slice_get listed i ≡ Some told → b ≡ p told) where
  inside : i < length listed
  inside = omega (arith, below, count)

  here : (answer : Bool) → b ≡ answer → (d : Told) → p (get_or listed i d) ≡ answer
  here answer found d =
      let one = member listed i inside in ap p (one.2 d) ∙ sym (is one.0 one.1) ∙ found

  pub counted : (held more : ℕ) → more ≡ from_bool b → (held ≡ count_by p (take i listed)) × (held ≤ i)
      → (held + more ≡ count_by p (take (i + 1) listed)) × (held + more ≤ i + 1)
  counted held more is_more before =
      let one = member listed i inside in elim (cases_Bool b) [
        | inl counts ↦
            let some : more ≡ 1 = is_more ∙ ap from_bool counts in
            rw some (
              ap (λ k. k + 1) before.0 ∙ sym (count_by_more_yes p listed i one.0 inside (here true counts one.0)),
              omega (arith, before.1),
            )
        | inr fails ↦
            let none : more ≡ 0 = is_more ∙ ap from_bool fails in
            let same : held + 0 ≡ held = omega arith in
            rw (none, same) (
              before.0 ∙ sym (count_by_more_no p listed i one.0 inside (here false fails one.0)),
              omega (arith, before.1),
            )
      ]

module _ (test : LitmusTest) where
  abbrev held_after : ℕ → List Told → ℕ
  held_after n xs = fold (λ s told. s + cond (is_held test told) 1 0) n xs

  abbrev holding_after : ℕ → List FinalState → ℕ
  holding_after n states = fold (λ s state. s + cond (holds state test.condition) 1 0) n states

  one_told : (n : ℕ) (x : Told) (xs : List Told) (b : Bool)
      → ((k : ℕ) → held_after k xs ≡ holding_after k (states_in test xs))
      → held_after (n + cond (b && holds_of test x) 1 0) xs
      ≡ holding_after n (map (state_of test) (cond b (x ∷ told_in test xs) (told_in test xs)))
  one_told n x xs true others = others (n + cond (holds_of test x) 1 0)
  one_told n x xs false others =
      let same : n + 0 ≡ n = omega arith in ap (λ k. held_after k xs) same ∙ others n

  along : (n : ℕ) (xs : List Told) → held_after n xs ≡ holding_after n (states_in test xs)
  along n [] = refl
  along n (x ∷ xs) = one_told n x xs (passes test x) (λ k. along k xs)

  -- The condition holds of as many final states as there are outcomes that are held.
  pub of_told : (listed : List Told)
      → count_by (is_held test) listed ≡ holding (states_in test listed) test.condition
  of_told listed = along 0 listed

  pub passing : (listed : List Told) → count_by (passes test) listed ≡ length (told_in test listed)
  passing listed = sym (length-filter (passes test) listed)

  length_states : (xs : List Told) → length (map (state_of test) xs) ≡ length xs
  length_states [] = refl
  length_states (x ∷ xs) = ap suc (length_states xs)

  -- Of no more than there are.
  pub held_few : (listed : List Told) → count_by (is_held test) listed ≤ length (told_in test listed)
  held_few listed =
      let some = count_by-le-length (λ (state : FinalState). holds state test.condition) (states_in test listed) in
      let all = length_states (told_in test listed) in
      let same = of_told listed in omega (arith, some, all, same)

  one_line : (x : Told) (xs : List Told) (b : Bool)
      → cond b (told_line test x) [] ++ flat_map (told_line test) xs
      ≡ flat_map (told_line test) (cond b (x ∷ xs) xs)
  one_line x xs true = sym (flat_map-cons (told_line test) x xs)
  one_line x xs false = refl

  -- The lines of all outcomes, each if it is a final state, are those of the final states.
  pub lines_are : (listed : List Told)
      → flat_map (line_if test) listed ≡ flat_map (told_line test) (told_in test listed)
  lines_are [] = refl
  lines_are (x ∷ xs) = flat_map-cons (line_if test) x xs ∙ ap (λ t. line_if test x ++ t) (lines_are xs)
      ∙ one_line x (told_in test xs) (passes test x)

  -- When the loops are over.
  pub held_is : (listed : List Told) (i held : ℕ) → length listed ≤ i → held ≡ count_by (is_held test) (take i listed)
      → held ≡ holding (states_in test listed) test.condition
  held_is listed i held over so_far =
      so_far ∙ ap (count_by (is_held test)) (take_all i listed over) ∙ of_told listed

  pub held_at_most : (listed : List Told) (i held : ℕ) → length listed ≤ i
      → held ≡ count_by (is_held test) (take i listed) → held ≤ length (told_in test listed)
  held_at_most listed i held over so_far =
      let same : held ≡ count_by (is_held test) listed =
      so_far ∙ ap (count_by (is_held test)) (take_all i listed over) in
      let few = held_few listed in omega (arith, same, few)

  pub passing_is : (listed : List Told) (i many : ℕ) → length listed ≤ i
      → many ≡ count_by (passes test) (take i listed) → many ≡ length (told_in test listed)
  passing_is listed i many over so_far =
      so_far ∙ ap (count_by (passes test)) (take_all i listed over) ∙ passing listed

  pub all_written : (listed : List Told) (old new : Option (List ℕ)) (i : ℕ) → length listed ≤ i
      → Appends old new (flat_map (line_if test) (take i listed))
      → Appends old new (flat_map (told_line test) (told_in test listed))
  all_written listed old new i over so_far =
      subst (λ (t : List ℕ). Appends old new t)
      (ap (flat_map (line_if test)) (take_all i listed over) ∙ lines_are listed) so_far

  -- A turn of the loop that writes them.
  pub line_step : (listed : List Told) (old mid new : Option (List ℕ)) (i n : ℕ) → i < n → n ≡ length listed
      → Appends old mid (flat_map (line_if test) (take i listed))
      → ((told : Told) → slice_get listed i ≡ Some told → Appends mid new (line_if test told))
      → Appends old new (flat_map (line_if test) (take (i + 1) listed))
  line_step listed old mid new i n below count before next =
      let within : i < length listed = omega (arith, below, count) in
      let one = member listed i within in
      flat_step (line_if test) old mid new listed i one.0 within before
      (subst (λ (t : Told). Appends mid new (line_if test t)) (sym (one.2 one.0)) (next one.0 one.1))
