-- An instruction is found in a hart's active list by its number.
use Rattle.std.specs.Prelude.{◌≡◌, ℕ, ◌<◌, ◌==◌, false, List, [], ◌∷◌, length, map, find, Option, Some, None}
use Rattle.std.specs.Prelude.{IfSome, IfNone, slice_index_or}
use Rattle.std.specs.List.{AllByRecursion, list_any}
use Rattle.std.proofs.Common.{◌∙◌, refl, sym, ap, subst, inl, inr, arith}
use Rattle.std.proofs.{lemmas.Bool.cases_Bool, lemmas.Bool.Decides.nat_tests, lemmas.Option.none-some}
use Rattle.std.proofs.{lemmas.Option.same_Some}
use Rattle.retire_squash.specs.declared.active.Active.{Active}
use Rattle.smt_model.specs.Picture.{Picture}
use Rattle.core_parts.specs.Agree.{IsActive, HartAgrees, PartsAgree}
use Rattle.core_parts.specs.declared.hart.HartState.{HartState}
use Rattle.core_parts.specs.declared.parts.Parts.{Parts}

found : (P : Active → Type 0) (s : ℕ) (xs : List Active) (a : Active) → AllByRecursion P xs
    → find (λ x. x.seq == s) xs ≡ Some a → P a × (a.seq ≡ s)
found P s [] a all is = absurd (none-some a is)
found P s (x ∷ xs) a all is = elim (cases_Bool (x.seq == s)) [
  | inl t ↦
      let same : x ≡ a = same_Some x a (rw t at is) in
      let number : x.seq ≡ s = grind (arith, nat_tests) in
      (subst P same all.0, ap (λ y. y.seq) (sym same) ∙ number)
  | inr f ↦ found P s xs a all.1 (rw f at is)
]

not_found : (s : ℕ) (xs : List Active) → find (λ x. x.seq == s) xs ≡ None
    → list_any (λ n. n == s) (map (λ a. a.seq) xs) ≡ false
not_found s [] is = refl
not_found s (x ∷ xs) is = elim (cases_Bool (x.seq == s)) [
  | inl t ↦ absurd (none-some x (sym (rw t at is)))
  | inr f ↦ rw f (not_found s xs (rw f at is))
]

-- In a hart's active list.
module _ (h s : ℕ) (x : HartState) (parts : Parts) (inside : h < length parts.harts.items)
    (at : x ≡ slice_index_or parts.harts.items h x) where
  hart_of_parts : (p : Picture) → PartsAgree p parts → HartAgrees p h x
  hart_of_parts p agrees = subst (HartAgrees p h) (sym at) (agrees.harts h x inside)

  pub in_flight_some : (r : Option Active) → r ≡ find (λ y. y.seq == s) x.active
      → IfSome r (λ a. (p : Picture) → PartsAgree p parts → IsActive p h a × (a.seq ≡ s))
  in_flight_some None is = tt
  in_flight_some (Some a) is = λ p agrees. found (IsActive p h) s x.active a (hart_of_parts p agrees).actives (sym is)

  pub in_flight_none : (r : Option Active) → r ≡ find (λ y. y.seq == s) x.active
      → IfNone r ((p : Picture) → PartsAgree p parts → list_any (λ n. n == s) (p.flight h) ≡ false)
  in_flight_none None is =
      λ p agrees. ap (list_any (λ n. n == s)) (sym (hart_of_parts p agrees).active) ∙ not_found s x.active (sym is)
  in_flight_none (Some a) is = tt
