-- A list whose keys rise is the only one in that order with its elements.
use Rattle.std.proofs.Common.{◌≡◌, ℕ, zero, suc, ◌<◌, ◌≤◌, List, [], ◌∷◌, get_or, refl, sym, ◌∙◌, ap, arith, ◌⊎◌, inl}
use Rattle.std.proofs.Common.{inr}
use Rattle.std.specs.{Prelude.AllPairs, Prelude.Contains, Prelude.IsPermutation, List.Sorted.IsNonDecreasingBy}
use Rattle.std.proofs.{lemmas.List.Elements.All-contains, lemmas.List.Sorted.Contains-permutation}
use Rattle.std.proofs.{lemmas.List.Sorted.IsPermutation-sym}
use Rattle.elf_image.proofs.Covering.{pairs_tail}
use Rattle.elf_image.proofs.{Pairs.AllPairs-permutation}

-- each key is below all later ones
abbrev pub AreRising : {X : Type 0} → (X → ℕ) → List X → Type 0
AreRising n xs = AllPairs (λ x y. n x < n y) xs

module _ {X : Type 0} (n : X → ℕ) where
  contained : (y : X) (ys : List X) (z : X) → Contains (y ∷ ys) z → (y ≡ z) ⊎ Contains ys z
  contained y ys z (zero, below, at) = inl at
  contained y ys z (suc k, below, at) = inr (k, omega arith, at)

  contains_later : (y : X) (ys : List X) (z : X) → Contains ys z → Contains (y ∷ ys) z
  contains_later y ys z (k, below, at) = (suc k, omega arith, at)

  contains_first : (y : X) (ys : List X) → Contains (y ∷ ys) y
  contains_first y ys = (0, omega arith, refl)

  -- the first key is the least
  least : (y : X) (ys : List X) (z : X) → AreRising n (y ∷ ys) → Contains ys z → n y < n z
  least y ys z rising there =
      All-contains (λ (x : X). n y < n x) ys z (λ k d below. rising 0 (suc k) d (omega arith) (omega arith)) there

  first_same : (x y : X) (xs ys : List X) → AreRising n (x ∷ xs) → AreRising n (y ∷ ys) → (y ≡ x) ⊎ Contains ys x
      → (x ≡ y) ⊎ Contains xs y → x ≡ y
  first_same x y xs ys up_x up_y (inl same) other = sym same
  first_same x y xs ys up_x up_y (inr there) (inl same) = same
  first_same x y xs ys up_x up_y (inr there) (inr here) =
      absurd (omega (arith, least y ys x up_y there, least x xs y up_x here))

  -- what both contain besides one first element
  rest_from : (x y : X) (xs ys : List X) → x ≡ y → AreRising n (x ∷ xs)
      → ((z : X) → Contains (x ∷ xs) z → Contains (y ∷ ys) z)
      → (z : X) → Contains xs z → Contains ys z
  rest_from x y xs ys same up all z there =
      not_first (contained y ys z (all z (contains_later x xs z there)))
    where
      not_first : (y ≡ z) ⊎ Contains ys z → Contains ys z
      not_first (inl first) = absurd (omega (arith, least x xs z up there, ap n same, ap n first))
      not_first (inr later) = later

  pub same_rising : (xs ys : List X) → AreRising n xs → AreRising n ys → ((z : X) → Contains xs z → Contains ys z)
      → ((z : X) → Contains ys z → Contains xs z) → xs ≡ ys
  same_rising [] [] up_x up_y to from = refl
  same_rising [] (y ∷ ys) up_x up_y to from = absurd (omega (arith, (from y (contains_first y ys)).1))
  same_rising (x ∷ xs) [] up_x up_y to from = absurd (omega (arith, (to x (contains_first x xs)).1))
  same_rising (x ∷ xs) (y ∷ ys) up_x up_y to from =
      let first : x ≡ y = first_same x y xs ys up_x up_y (contained y ys x (to x (contains_first x xs)))
      (contained x xs y (from y (contains_first y ys))) in
      let rest : xs ≡ ys = same_rising xs ys (pairs_tail (λ (a : X) (b : X). n a < n b) x xs up_x)
      (pairs_tail (λ (a : X) (b : X). n a < n b) y ys up_y)
      (rest_from x y xs ys first up_x to) (rest_from y x ys xs (sym first) up_y from) in
      ap (λ (a : X). a ∷ xs) first ∙ ap (λ (l : List X). y ∷ l) rest

  -- another order of a rising list, if its keys don't fall, is the list itself
  pub same_order : (xs ys : List X) → AreRising n xs → IsPermutation xs ys → IsNonDecreasingBy n ys → ys ≡ xs
  same_order xs ys up moved sorted =
      let differ : AllPairs (λ (a : X) (b : X). n a ≡ n b → ⊥) ys
      = AllPairs-permutation (λ (a : X) (b : X). n a ≡ n b → ⊥) (λ a b differs same. differs (sym same)) xs ys moved
      (λ i j d less inside same. omega (arith, up i j d less inside, same)) in
      let up_y : AreRising n ys = λ i j d less inside. below (n (get_or ys i d)) (n (get_or ys j d))
      (sorted i j d (omega arith) inside) (differ i j d less inside) in
      sym (same_rising xs ys up up_y (λ z there. Contains-permutation xs ys z moved there)
      (λ z there. Contains-permutation ys xs z (IsPermutation-sym xs ys moved) there))
    where
      below : (a b : ℕ) → a ≤ b → (a ≡ b → ⊥) → a < b
      below a b less differs = omega (arith, differs)
