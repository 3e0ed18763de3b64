-- Edges by their places and harts.
use Rattle.std.proofs.Common.{◌≡◌, ℕ, ◌+◌, ◌*◌, ◌<◌, ◌≤◌, ◌⊎◌, List, [], ◌∷◌, ◌++◌, length, get_or}
use Rattle.std.proofs.Common.{slice_get, Option, None, Some, sym, ap, ◌∙◌, inl, inr, arith}
use Rattle.std.proofs.Math.Nat.{mul_comm}
use Rattle.std.proofs.Math.ListN.{get_or-append}
use Rattle.std.proofs.lemmas.Nat.{mul-add-lt}
use Rattle.std.proofs.lemmas.Option.{slice_get_within, slice_get-get_or, get_or_from_slice_get, slice_get_cases}
use Rattle.std.proofs.lemmas.List.{get_or_past, get_or_push}
use Rattle.searches.specs.declared.step.Step.{Step}
use Rattle.searches.specs.Found.{Found, edge_at, IsEdge}
use Rattle.searches.specs.Sweeps.{Keeps, with_edge}
use Rattle.searches.proofs.Numbers.{three_ways}
use Rattle.searches.proofs.Places.{push-cases}

-- The edges of a place stand before those of a later one.
pub before : (k n h p : ℕ) → k < p → h < n → k * n + h < p * n
before k n h p less below = omega (arith, mul-add-lt k n h p less below, mul_comm n p)

-- Each index is that of one place and hart.
pub one_index : (k p n h g : ℕ) → h < n → g < n → k * n + h ≡ p * n + g → (k ≡ p) × (h ≡ g)
one_index k p n h g a b same = by (three_ways k p)
  where
    by : (k < p) ⊎ ((p < k) ⊎ (k ≡ p)) → (k ≡ p) × (h ≡ g)
    by (inl less) = absurd (omega (arith, before k n h p less a, same))
    by (inr (inl more)) = absurd (omega (arith, before p n g k more b, same))
    by (inr (inr e)) =
        let m : k * n ≡ p * n = ap (λ x. x * n) e in
        (e, omega (arith, m, same))

-- An edge that leads to a place is there.
pub read : (xs : List (Option ℕ)) (i q : ℕ) → get_or xs i None ≡ Some q → slice_get xs i ≡ Some (Some q)
read xs i q e = by (slice_get_cases xs i).1
  where
    nothing : None ≡ Some q → ⊥
    nothing x = cc

    by : ((z : Option ℕ) × (i < length xs) × (slice_get xs i ≡ Some z) × (get_or xs i z ≡ z))
        ⊎ ((length xs ≤ i) × (slice_get xs i ≡ None))
        → slice_get xs i ≡ Some (Some q)
    by (inl c) = slice_get-get_or xs i None c.1 ∙ ap Some e
    by (inr c) = absurd (nothing (sym (get_or_past xs i None c.0) ∙ e))

module _ {S W : Type 0} (found : Found S W) where
  pub edge_within : (k h q : ℕ) → edge_at found k h ≡ Some q → k * found.harts + h < length found.edges
  edge_within k h q e =
      slice_get_within found.edges (k * found.harts + h) (Some q) (read found.edges (k * found.harts + h) q e)

  module _ (edge : Option ℕ) where
    pub old_edge : (k h : ℕ) → k * found.harts + h < length found.edges → edge_at (with_edge found edge) k
        h ≡ edge_at found k h
    old_edge k h below = get_or-append found.edges (edge ∷ []) None (k * found.harts + h) below

    pub kept_edge : (k h q : ℕ) → edge_at found k h ≡ Some q → edge_at (with_edge found edge) k h ≡ Some q
    kept_edge k h q e = old_edge k h (edge_within k h q e) ∙ e

    pub new_edge : (k h : ℕ) → k * found.harts + h ≡ length found.edges → edge_at (with_edge found edge) k h ≡ edge
    new_edge k h e = get_or_push found.edges edge None (k * found.harts + h) (sym e)

    -- An edge that leads to a place is an old one, or the new one.
    pub edge-cases : (k h q : ℕ) → edge_at (with_edge found edge) k h ≡ Some q
        → (edge_at found k h ≡ Some q) ⊎ ((k * found.harts + h ≡ length found.edges) × (edge ≡ Some q))
    edge-cases k h q e =
        by (push-cases found.edges edge (k * found.harts + h) (Some q)
        (read (found.edges ++ edge ∷ []) (k * found.harts + h) q e))
      where
        by : (slice_get found.edges (k * found.harts + h) ≡ Some (Some q))
            ⊎ ((k * found.harts + h ≡ length found.edges) × (edge ≡ Some q))
            → (edge_at found k h ≡ Some q) ⊎ ((k * found.harts + h ≡ length found.edges) × (edge ≡ Some q))
        by (inl old) = inl (get_or_from_slice_get found.edges (k * found.harts + h) (Some q) None old)
        by (inr here) = inr here

-- What an edge leads to stays there.
pub edge_stays : {S W : Type 0} (Steps : S → ℕ → Option (Step S W) → Type 0) (old new : Found S W) (s : S) (h : ℕ)
    (edge : Option ℕ)
    → Keeps old.states new.states → IsEdge Steps old s h edge → IsEdge Steps new s h edge
edge_stays Steps old new s h None kept is = is
edge_stays Steps old new s h (Some q) kept is = (is.0, is.1, kept q is.0 is.2, is.3)
