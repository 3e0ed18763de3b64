-- Elements of a list by their places.
use Rattle.std.proofs.Common.{◌≡◌, ℕ, ◌+◌, ◌<◌, ◌≤◌, ◌⊎◌, List, [], ◌∷◌, ◌++◌, length, get_or}
use Rattle.std.proofs.Common.{slice_get, None, Some, Contains, refl, sym, ap, subst, ◌∙◌, inl, inr, arith}
use Rattle.std.proofs.Common.{length-append}
use Rattle.std.proofs.lemmas.Option.{slice_get_within, slice_get-get_or, get_or_from_slice_get, slice_get_cases}
use Rattle.std.proofs.lemmas.List.{get_or_push}
use Rattle.std.proofs.Math.ListN.{get_or-append}
use Rattle.searches.specs.Sweeps.{Keeps}
use Rattle.searches.proofs.Numbers.{less_or_more}

module _ {X : Type 0} where
  pub place_of : (xs : List X) (x : X) → Contains xs x → (k : ℕ) × (slice_get xs k ≡ Some x)
  place_of xs x c = (c.0, slice_get-get_or xs c.0 x c.1 ∙ ap Some c.2)

  pub contains_at : (xs : List X) (k : ℕ) (x : X) → slice_get xs k ≡ Some x → Contains xs x
  contains_at xs k x e = (k, slice_get_within xs k x e, get_or_from_slice_get xs k x x e)

  pub element_at : (xs : List X) (k : ℕ) → k < length xs → (x : X) × (slice_get xs k ≡ Some x)
  element_at xs k below =
      elim (slice_get_cases xs k).1 [ inl c ↦ (c.0, c.2) | inr c ↦ absurd (omega (arith, c.0)) ]

  -- An element that was read of the list, or of its slice.
  pub read_at : (xs ys : List X) (k : ℕ) (x : X) → ys ≡ xs → k < length xs → x ≡ get_or ys k x
      → slice_get xs k ≡ Some x
  read_at xs ys k x same below is =
      slice_get-get_or xs k x below ∙ ap Some (ap (λ l. get_or l k x) (sym same) ∙ sym is)

  pub push-old : (xs : List X) (y : X) (k : ℕ) (x : X) → slice_get xs k ≡ Some x → slice_get (xs ++ y ∷ []) k ≡ Some x
  push-old xs y k x e =
      let within = slice_get_within xs k x e in
      slice_get-get_or (xs ++ y ∷ []) k x (omega (arith, length-append xs (y ∷ [])))
      ∙ ap Some (get_or-append xs (y ∷ []) x k within ∙ get_or_from_slice_get xs k x x e)

  pub push-new : (xs : List X) (y : X) → slice_get (xs ++ y ∷ []) (length xs) ≡ Some y
  push-new xs y =
      slice_get-get_or (xs ++ y ∷ []) (length xs) y (omega (arith, length-append xs (y ∷ [])))
      ∙ ap Some (get_or_push xs y y (length xs) refl)

  inside : (a b : X) → Some a ≡ Some b → a ≡ b
  inside a b e = cc

  pub same_element : (xs : List X) (k : ℕ) (x y : X) → slice_get xs k ≡ Some x → slice_get xs k ≡ Some y → x ≡ y
  same_element xs k x y e f = inside x y (sym e ∙ f)

  pub push-cases : (xs : List X) (y : X) (k : ℕ) (x : X) → slice_get (xs ++ y ∷ []) k ≡ Some x
      → (slice_get xs k ≡ Some x) ⊎ ((k ≡ length xs) × (y ≡ x))
  push-cases xs y k x e = by (slice_get_cases xs k).1
    where
      by : ((z : X) × (k < length xs) × (slice_get xs k ≡ Some z) × (get_or xs k z ≡ z))
          ⊎ ((length xs ≤ k) × (slice_get xs k ≡ None))
          → (slice_get xs k ≡ Some x) ⊎ ((k ≡ length xs) × (y ≡ x))
      by (inl c) = inl (c.2 ∙ ap Some (same_element (xs ++ y ∷ []) k c.0 x (push-old xs y k c.0 c.2) e))
      by (inr c) =
          let below : k < length xs + 1 =
          omega (arith, slice_get_within (xs ++ y ∷ []) k x e, length-append xs (y ∷ [])) in
          let here : k ≡ length xs = omega (arith, c.0) in
          inr (
            here,
            same_element (xs ++ y ∷ []) k y x
                (subst (λ n. slice_get (xs ++ y ∷ []) n ≡ Some y) (sym here) (push-new xs y)) e,
          )

  -- A place that was there is there, where all that was there keeps its place.
  pub keeps_within : (old new : List X) → Keeps old new → (k : ℕ) → k < length old → k < length new
  keeps_within old new kept k below =
      let x = element_at old k below in
      slice_get_within new k x.0 (kept k x.0 x.1)

  pub keeps_long : (old new : List X) → Keeps old new → length old ≤ length new
  keeps_long old new kept = by (less_or_more (length new) (length old))
    where
      by : (length new < length old) ⊎ (length old ≤ length new) → length old ≤ length new
      by (inl less) = absurd (omega (arith, keeps_within old new kept (length new) less))
      by (inr le) = le
