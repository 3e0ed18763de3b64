-- What a swept list of states has: the moves of its origins lead to each of them, by no more steps
-- than any way along the edges has.
use Rattle.std.proofs.Common.{◌≡◌, ℕ, zero, suc, ◌+◌, ◌*◌, ◌<◌, ◌≤◌, List, [], ◌∷◌, length}
use Rattle.std.proofs.Common.{slice_get, Option, Some, sym, ap, subst, ◌∙◌, arith}
use Rattle.std.proofs.lemmas.Option.{slice_get_within}
use Rattle.searches.specs.declared.origin.Origin.{Origin}
use Rattle.searches.specs.declared.step.Step.{Step}
use Rattle.searches.specs.Orders.{Leads}
use Rattle.searches.specs.Found.{Found, edge_at, moves_at, Follows, Exceeds}
use Rattle.searches.specs.Sweeps.{AreListed, IsTree}
use Rattle.searches.proofs.Places.{element_at, same_element, place_of}
use Rattle.searches.proofs.Edges.{read}
use Rattle.searches.proofs.Orders.{move_of, Leads-push, moves_at-step, length-step}

-- The tree of a sweep's states.
pub tree_of : {S W : Type 0} (Knows : S → Type 0) (Steps : S → ℕ → Option (Step S W) → Type 0) (place hart : ℕ)
    (found : Found S W) → AreListed Knows Steps place hart found → IsTree Knows Steps found
tree_of Knows Steps place hart found listed = record {
  paired = listed.paired;
  known = listed.known;
  different = listed.different;
  stepped = listed.stepped;
}

module _ {S W : Type 0} (Knows : S → Type 0) (Steps : S → ℕ → Option (Step S W) → Type 0) (found : Found S W)
    (tree : IsTree Knows Steps found) where
  pub origin_of : (k : ℕ) (t : S) → slice_get found.states (k + 1) ≡ Some t → (o : Origin W)
      × (slice_get found.origins k ≡ Some o)
  origin_of k t e = element_at found.origins k (omega (arith, slice_get_within found.states (k + 1) t e, tree.paired))

  pub parent_before : (k : ℕ) (o : Origin W) → slice_get found.origins k ≡ Some o → o.parent ≤ k
  parent_before k o e =
      let t = element_at found.states (k + 1) (omega (arith, slice_get_within found.origins k o e, tree.paired)) in
      let from = tree.stepped k t.0 o t.1 e in
      omega (arith, from.1)

  -- The moves of a state's origins lead to it.
  module _ (start : S) (first : slice_get found.states 0 ≡ Some start) where
    reached_within : (n k : ℕ) (t : S) → k ≤ n → slice_get found.states k ≡ Some t
        → Leads Steps start (moves_at found.origins k) t
    reached_within n zero t b e = same_element found.states 0 start t first e
    reached_within zero (suc k) t b e = absurd (omega (arith, b))
    reached_within (suc n) (suc k) t b e =
        let next : k + 1 ≡ suc k = omega arith in
        let here : slice_get found.states (k + 1) ≡ Some t =
        subst (λ m. slice_get found.states m ≡ Some t) (sym next) e in
        let (o, at) = origin_of k t here in
        let from = tree.stepped k t o here at in
        subst (λ m. Leads Steps start (moves_at found.origins m) t) next
        (subst (λ l. Leads Steps start l t) (sym (moves_at-step found.origins parent_before k o at))
        (Leads-push Steps start (moves_at found.origins o.parent) from.0 t (move_of o)
        (reached_within n o.parent from.0 (omega (arith, from.1, b)) from.3) from.4))

    pub reached : (k : ℕ) (t : S) → slice_get found.states k ≡ Some t → Leads Steps start (moves_at found.origins k) t
    reached k t e = reached_within k k t (omega arith) e

    -- What a search has when it meets its budget.
    pub exceeded : (budget : ℕ) → budget < length found.states → Exceeds Steps start budget
    exceeded budget over = (
      found.states,
      tree.different,
      over,
      λ t there.
          let k = place_of found.states t there in
          (moves_at found.origins k.0, reached k.0 t k.1),
    )

module _ {S W : Type 0} (Knows : S → Type 0) (Steps : S → ℕ → Option (Step S W) → Type 0) (place hart : ℕ)
    (found : Found S W)
    (listed : AreListed Knows Steps place hart found) where
  before : (k : ℕ) (o : Origin W) → slice_get found.origins k ≡ Some o → o.parent ≤ k
  before = parent_before Knows Steps found (tree_of Knows Steps place hart found listed)

  -- States that stand later were found by no fewer steps.
  later_within : (n i j : ℕ) → j ≤ n → i ≤ j → j < length found.states
      → length (moves_at found.origins i) ≤ length (moves_at found.origins j)
  later_within n zero j b le in' = omega arith
  later_within n (suc i) zero b le in' = absurd (omega (arith, le))
  later_within zero (suc i) (suc j) b le in' = absurd (omega (arith, b))
  later_within (suc n) (suc i) (suc j) b le in' =
      let a = element_at found.origins i (omega (arith, listed.paired, in', le)) in
      let z = element_at found.origins j (omega (arith, listed.paired, in')) in
      let first : z.0.parent ≤ j = before j z.0 z.1 in
      let rest : length (moves_at found.origins a.0.parent) ≤ length (moves_at found.origins z.0.parent) =
      later_within n a.0.parent z.0.parent (omega (arith, first, b))
      (listed.ordered i j a.0 z.0 (omega (arith, le)) a.1 z.1) (omega (arith, first, in')) in
      let da : length (moves_at found.origins (suc i)) ≡ length (moves_at found.origins a.0.parent) + 1 =
      steps i a.0 a.1 in
      let dz : length (moves_at found.origins (suc j)) ≡ length (moves_at found.origins z.0.parent) + 1 =
      steps j z.0 z.1 in
      omega (arith, rest, da, dz)
    where
      steps : (k : ℕ) (o : Origin W) → slice_get found.origins k ≡ Some o
          → length (moves_at found.origins (suc k)) ≡ length (moves_at found.origins o.parent) + 1
      steps k o e =
          let next : k + 1 ≡ suc k = omega arith in
          subst (λ n. length (moves_at found.origins n) ≡ length (moves_at found.origins o.parent) + 1) next
          (length-step found.origins before k o e)

  -- An edge leads to a state that was found by at most one step more.
  edge_near : (k h q : ℕ) → k < length found.states → h < found.harts → edge_at found k h ≡ Some q
      → length (moves_at found.origins q) ≤ length (moves_at found.origins k) + 1
  edge_near k h zero in' below e = omega arith
  edge_near k h (suc q) in' below e =
      let next : suc q ≡ q + 1 = omega arith in
      let inside = listed.inside (k * found.harts + h) (suc q) (read found.edges (k * found.harts + h) (suc q) e) in
      let o = element_at found.origins q (omega (arith, inside, listed.paired)) in
      let near = listed.near k h q o.0 below (e ∙ ap Some next) o.1 in
      let d = length-step found.origins before q o.0 o.1 in
      let l = later_within k o.0.parent k (omega arith) near in' in
      subst (λ n. length (moves_at found.origins n) ≤ length (moves_at found.origins k) + 1) (sym next)
      (omega (arith, d, l))

  pub walk : (way : List ℕ) (p q : ℕ) → p < length found.states → Follows found p way q
      → length (moves_at found.origins q) ≤ length (moves_at found.origins p) + length way
  walk [] p q in' e = subst (λ n. length (moves_at found.origins n) ≤ length (moves_at found.origins p) + 0) e
      (omega arith)
  walk (h ∷ way) p q in' f =
      let inside = listed.inside (p * found.harts + h) f.0 (read found.edges (p * found.harts + h) f.0 f.2) in
      let near = edge_near p h f.0 in' f.1 f.2 in
      let rest = walk way f.0 q inside f.3 in
      omega (arith, near, rest)
