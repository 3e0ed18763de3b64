-- What stands in a list, and what holds of all that do.
use Rattle.std.proofs.Common.{◌≡◌, Bool, true, false, cond, List, [], ◌∷◌, filter, refl, sym, subst, inl, inr}
use Rattle.std.specs.List.{AllByRecursion}
use Rattle.issue_queue.specs.Lists.{Stands}

module _ {X : Type 0} where
  pub all_of : (P : X → Type 0) (xs : List X) → ((x : X) → Stands x xs → P x) → AllByRecursion P xs
  all_of P [] holds = tt
  all_of P (x ∷ xs) holds = (holds x (inl refl), all_of P xs (λ y there. holds y (inr there)))

  pub at_all : (P : X → Type 0) (xs : List X) (y : X) → AllByRecursion P xs → Stands y xs → P y
  at_all P [] y all there = absurd there
  at_all P (x ∷ xs) y all (inl same) = subst P same all.0
  at_all P (x ∷ xs) y all (inr there) = at_all P xs y all.1 there

  pub All-filter : (P : X → Type 0) (test : X → Bool) (xs : List X) → AllByRecursion P xs
      → AllByRecursion P (filter test xs)
  All-filter P test [] all = tt
  All-filter P test (x ∷ xs) all =
      elim (test x) as (λ b. AllByRecursion P (cond b (x ∷ filter test xs) (filter test xs)))
      [ true ↦ (all.0, All-filter P test xs all.1) | false ↦ All-filter P test xs all.1 ]

  -- what passes stays
  pub Stands-filter : (test : X → Bool) (y : X) (xs : List X) → Stands y xs → test y ≡ true
      → Stands y (filter test xs)
  Stands-filter test y [] there passes = absurd there
  Stands-filter test y (x ∷ xs) (inl same) passes =
      let here : test x ≡ true = subst (λ z. test z ≡ true) (sym same) passes in rw here (inl same)
  Stands-filter test y (x ∷ xs) (inr there) passes =
      elim (test x) as (λ b. Stands y (cond b (x ∷ filter test xs) (filter test xs)))
      [ true ↦ inr (Stands-filter test y xs there passes) | false ↦ Stands-filter test y xs there passes ]

  passes_first : (test : X → Bool) (y x : X) (xs : List X) (b : Bool) → test x ≡ b
      → (Stands y (filter test xs) → Stands y xs × (test y ≡ true))
      → Stands y (cond b (x ∷ filter test xs) (filter test xs)) → Stands y (x ∷ xs) × (test y ≡ true)
  passes_first test y x xs true is later (inl same) = (inl same, subst (λ z. test z ≡ true) same is)
  passes_first test y x xs true is later (inr there) = let l = later there in (inr l.0, l.1)
  passes_first test y x xs false is later there = let l = later there in (inr l.0, l.1)

  -- what stays was there and passes
  pub Stands-filtered : (test : X → Bool) (y : X) (xs : List X) → Stands y (filter test xs)
      → Stands y xs × (test y ≡ true)
  Stands-filtered test y [] there = absurd there
  Stands-filtered test y (x ∷ xs) there =
      passes_first test y x xs (test x) refl (Stands-filtered test y xs) there
