-- The turns of the loops over all outcomes.
use Rattle.std.proofs.Common.{◌≡◌, ℕ, ◌+◌, ◌<◌, ◌≤◌, Bool, true, false, List, ◌++◌, length, take, get_or, refl, sym, ap}
use Rattle.std.proofs.Common.{subst, ◌∙◌, arith, slice_get, Option, Some, count_by, flat_map}
use Rattle.std.specs.{Int.from_bool}
use Rattle.std.specs.Io.KnownBytes.{Appends}
use Rattle.std.proofs.lemmas.{Bool.cases_Bool, List.take_all}
use mathlib.Core.Logic.{inl, inr}
use Rattle.std.proofs.lemmas.List.Sums.{count_by_more_yes, count_by_more_no}
use Rattle.outcomes.specs.{Found.Told}
use Rattle.text_fields.proofs.Appending.{flat_step, member}

-- One more is looked at, and counted where it passes.
module _ (p : Told → Bool) (listed : List Told) (i n : ℕ) (b : Bool) (below : i < n) (count : n ≡ length listed)
    (is : (told : Told) → slice_get listed i ≡ Some told → b ≡ p told) where
  inside : i < length listed
  inside = omega (arith, below, count)

  here : (answer : Bool) → b ≡ answer → (d : Told) → p (get_or listed i d) ≡ answer
  here answer found d =
      let one = member listed i inside in ap p (one.2 d) ∙ sym (is one.0 one.1) ∙ found

  pub counted : (so_far more : ℕ) → more ≡ from_bool b → (so_far ≡ count_by p (take i listed)) × (so_far ≤ i)
      → (so_far + more ≡ count_by p (take (i + 1) listed)) × (so_far + more ≤ i + 1)
  counted so_far more is_more before =
      let one = member listed i inside in elim (cases_Bool b) [
        | inl counts ↦
            let some : more ≡ 1 = is_more ∙ ap from_bool counts in
            rw some (
              ap (λ k. k + 1) before.0 ∙ sym (count_by_more_yes p listed i one.0 inside (here true counts one.0)),
              omega (arith, before.1),
            )
        | inr fails ↦
            let none : more ≡ 0 = is_more ∙ ap from_bool fails in
            let same : so_far + 0 ≡ so_far = omega arith in
            rw (none, same) (
              before.0 ∙ sym (count_by_more_no p listed i one.0 inside (here false fails one.0)),
              omega (arith, before.1),
            )
      ]

-- When all were looked at.
pub counted_all : (p : Told → Bool) (listed : List Told) (i many : ℕ) → length listed ≤ i
    → many ≡ count_by p (take i listed) → many ≡ count_by p listed
counted_all p listed i many over so_far = so_far ∙ ap (count_by p) (take_all i listed over)

-- One more is written, and all were.
module _ (text : Told → List ℕ) (listed : List Told) where
  pub line_step : (old mid new : Option (List ℕ)) (i n : ℕ) → i < n → n ≡ length listed
      → Appends old mid (flat_map text (take i listed))
      → ((told : Told) → slice_get listed i ≡ Some told → Appends mid new (text told))
      → Appends old new (flat_map text (take (i + 1) listed))
  line_step old mid new i n below count before next =
      let within : i < length listed = omega (arith, below, count) in
      let one = member listed i within in
      flat_step text old mid new listed i one.0 within before
      (subst (λ (t : Told). Appends mid new (text t)) (sym (one.2 one.0)) (next one.0 one.1))

  pub all_written : (old new : Option (List ℕ)) (i : ℕ) → length listed ≤ i
      → Appends old new (flat_map text (take i listed)) → Appends old new (flat_map text listed)
  all_written old new i over so_far =
      subst (λ (t : List ℕ). Appends old new t) (ap (flat_map text) (take_all i listed over)) so_far
