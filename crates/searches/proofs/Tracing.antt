-- What is left of a sweep that ends early, and how it goes on.
use Rattle.std.proofs.Common.{◌≡◌, ◌≢◌, ℕ, ◌+◌, ◌*◌, ◌^◌, ◌<◌, ◌≤◌, ◌⊎◌, Bool, true, false, List, [], ◌∷◌, ◌++◌, length}
use Rattle.std.proofs.Common.{slice_get, Option, None, Some, Contains, sym, ap, subst, ◌∙◌, inl, inr, arith}
use Rattle.std.proofs.Common.{length-append, true≢false}
use Rattle.std.specs.Prelude.{IfSome}
use Rattle.std.specs.List.{list_any}
use Rattle.std.specs.Cmp.{IsEquivalence}
use Rattle.std.proofs.Math.Nat.{mul-le-mul_right}
use Rattle.std.proofs.lemmas.List.Quantifiers.{all_pairs_push}
use Rattle.std.proofs.lemmas.List.Elements.{Contains-push_cases, Contains-push}
use Rattle.std.proofs.lemmas.Map.Views.{list_any-from_Contains}
use Rattle.std.proofs.lemmas.Option.{slice_get_within, slice_get-get_or}
use Rattle.searches.specs.declared.origin.Origin.{Origin}
use Rattle.searches.specs.declared.step.Step.{Step}
use Rattle.searches.specs.declared.extent.Extent.TheVariants.{First}
use Rattle.searches.specs.Found.{Found, edge_at, IsEdge, IsStepped, IsEndAt, IsPart, IsToldFor}
use Rattle.searches.specs.Sweeps.{AreListed, IsTree, AreTraced, IsNoted, with_state}
use Rattle.searches.specs.Tied.{IsTied}
use Rattle.searches.proofs.Places.{contains_at, element_at, push-old, push-cases}
use Rattle.searches.proofs.Edges.{before}
use Rattle.searches.proofs.Walking.{tree_of, origin_of, parent_before, reached}

-- The lists of a sweep, as far as it has come.
module _ {S W : Type 0} (Knows : S → Type 0) (Steps : S → ℕ → Option (Step S W) → Type 0) (place hart : ℕ)
    (found : Found S W) (listed : AreListed Knows Steps place hart found)
    (few : length found.edges ≤ length found.states * found.harts) (within : place ≤ length found.states) where
  none_of : (s : S) (h : ℕ) (edge : Option ℕ) → edge ≡ None → IsEdge Steps found s h edge → Steps s h None
  none_of s h None e is = is
  none_of s h (Some q) e is = absurd (nothing e)
    where
      nothing : Some q ≡ None → ⊥
      nothing x = cc

  ended : (k : ℕ) → Contains found.ends k → IsEndAt Steps found k
  ended k is =
      let below = listed.ends_before k is in
      let s = element_at found.states k (omega (arith, below, within)) in (
        s.0,
        s.1,
        λ h b.
            none_of s.0 h (edge_at found k h) ((listed.end k below).0 is h b)
            (listed.along k h s.0 s.1 b (omega (arith, before k found.harts h place below b, listed.filled))),
      )

  pub traced : AreTraced Knows Steps found
  traced = record {
    tree = tree_of Knows Steps place hart found listed;
    filled = few;
    inside = listed.inside;
    ended = ended;
  }

-- There are no more edges than those of all places.
module _ {S W : Type 0} (Knows : S → Type 0) (Steps : S → ℕ → Option (Step S W) → Type 0) (place hart : ℕ)
    (found : Found S W) (listed : AreListed Knows Steps place hart found) where
  -- Some harts of a place were looked at.
  pub traced_within : hart ≤ found.harts → place < length found.states → AreTraced Knows Steps found
  traced_within some below =
      let next : (place + 1) * found.harts ≤ length found.states * found.harts =
      mul-le-mul_right found.harts (omega (arith, below)) in
      let more : (place + 1) * found.harts ≡ place * found.harts + found.harts = omega arith in
      traced Knows Steps place hart found listed (omega (arith, next, more, listed.filled, some)) (omega (arith, below))

  -- All harts of the places before it were.
  pub traced_behind : hart ≡ 0 → place ≤ length found.states → AreTraced Knows Steps found
  traced_behind none within =
      let all : place * found.harts ≤ length found.states * found.harts = mul-le-mul_right found.harts within in
      traced Knows Steps place hart found listed (omega (arith, all, listed.filled, none)) within

-- What was shown of a machine holds of what it has become.
module _ {S W : Type 0} (Knows Knows' : S → Type 0) (Steps Steps' : S → ℕ → Option (Step S W) → Type 0)
    (know : (s : S) → Knows s → Knows' s)
    (hold : (s : S) (h : ℕ) (next : Option (Step S W)) → Knows s → IfSome next (λ step. Knows step.state)
    → Steps s h next → Steps' s h next) (found : Found S W) where
  pub tree_grown : IsTree Knows Steps found → IsTree Knows' Steps' found
  tree_grown tree = record {
    paired = tree.paired;
    known = λ k t e. know t (tree.known k t e);
    different = tree.different;
    stepped = λ k t o e from.
        let f = tree.stepped k t o e from in (
          f.0,
          f.1,
          f.2,
          f.3,
          hold f.0 o.hart (Some (record { state = t; way = o.way }))
              (tree.known o.parent f.0 f.3) (tree.known (k + 1) t e) f.4,
        );
  }

  pub traced_grown : AreTraced Knows Steps found → AreTraced Knows' Steps' found
  traced_grown traced = record {
    tree = tree_grown traced.tree;
    filled = traced.filled;
    inside = traced.inside;
    ended = λ k is.
        let e = traced.ended k is in
        (e.0, e.1, λ h b. hold e.0 h None (traced.tree.known k e.0 e.1) tt (e.2 h b));
  }

-- A state goes last, with its origin: a step of a hart from a state that is there.
module _ {S W : Type 0} (Knows : S → Type 0) (Steps : S → ℕ → Option (Step S W) → Type 0) (found : Found S W)
    (traced : AreTraced Knows Steps found) (place hart : ℕ) (below : hart < found.harts) (s : S)
    (at : slice_get found.states place ≡ Some s) (t : S) (w : W) (known : Knows t)
    (next : Steps s hart (Some (record { state = t; way = w })))
    (absent : (k : ℕ) → slice_get found.states k ≡ Some t → ⊥) where
  abbrev origin : Origin W
  origin = record { parent = place; hart = hart; way = w }

  abbrev longer : Found S W
  longer = with_state found t origin

  stepped_longer : (k : ℕ) (t' : S) (o : Origin W) → slice_get longer.states (k + 1) ≡ Some t'
      → slice_get longer.origins k ≡ Some o → IsStepped Steps longer (k + 1) t' o
  stepped_longer k t' o e from =
      by (push-cases found.states t (k + 1) t' e) (push-cases found.origins origin k o from)
    where
      by : (slice_get found.states (k + 1) ≡ Some t') ⊎ ((k + 1 ≡ length found.states) × (t ≡ t'))
          → (slice_get found.origins k ≡ Some o) ⊎ ((k ≡ length found.origins) × (origin ≡ o))
          → IsStepped Steps longer (k + 1) t' o
      by (inl a) (inl b) =
          let f = traced.tree.stepped k t' o a b in
          (f.0, f.1, f.2, push-old found.states t o.parent f.0 f.3, f.4)
      by (inl a) (inr b) = absurd (omega (arith, slice_get_within found.states (k + 1) t' a, b.0, traced.tree.paired))
      by (inr a) (inl b) = absurd (omega (arith, slice_get_within found.origins k o b, a.0, traced.tree.paired))
      by (inr a) (inr b) =
          subst (λ (x : Origin W). IsStepped Steps longer (k + 1) t' x) b.1 (
            s,
            omega (arith, slice_get_within found.states place s at, a.0),
            below,
            push-old found.states t place s at,
            subst (λ x. Steps s hart (Some (record { state = x; way = w }))) a.1 next,
          )

  one_longer : length longer.states ≡ length found.states + 1
  one_longer = omega (arith, length-append found.states (t ∷ []))

  pub lengthened : AreTraced Knows Steps longer
  lengthened = record {
    tree = record {
      paired = omega (arith, length-append found.origins (origin ∷ []), one_longer, traced.tree.paired);
      known = λ k x e.
          elim (push-cases found.states t k x e) [
            | inl old ↦ traced.tree.known k x old
            | inr new ↦ subst Knows new.1 known
          ];
      different = all_pairs_push (λ x y. x ≢ y) found.states t traced.tree.different
          (λ k d less e. absent k (slice_get-get_or found.states k d less ∙ ap Some e));
      stepped = stepped_longer;
    };
    filled = omega (
      arith,
      traced.filled,
      mul-le-mul_right {m = length found.states} {n = length longer.states} found.harts (omega (arith, one_longer)),
    );
    inside = λ i q e. omega (arith, traced.inside i q e, one_longer);
    ended = λ k is.
        let e = traced.ended k is in
        (e.0, push-old found.states t k e.0 e.1, e.2);
  }

-- What noting the state of a step comes to.
module _ {S W : Type 0} (eq : S → S → Bool) (laws : IsEquivalence eq)
    (Knows : S → Type 0) (Steps : S → ℕ → Option (Step S W) → Type 0) (found : Found S W)
    (traced : AreTraced Knows Steps found) where
  another : (t : S) → list_any (eq t) found.states ≡ false → (k : ℕ) → slice_get found.states k ≡ Some t → ⊥
  another t e k there =
      true≢false (sym (list_any-from_Contains laws t found.states (contains_at found.states k t there)) ∙ e)

  pub noted_traced : (place hart : ℕ) → hart < found.harts → (s : S) → slice_get found.states place ≡ Some s
      → (t : S) (w : W) → Knows t → Steps s hart (Some (record { state = t; way = w })) → (new : Found S W) (q : ℕ)
      → IsNoted eq found t (record { parent = place; hart = hart; way = w }) new q → AreTraced Knows Steps new
  noted_traced place hart below s at t w known next new q (inl there) =
      subst (AreTraced Knows Steps) (sym there.0) traced
  noted_traced place hart below s at t w known next new q (inr added) =
      subst (AreTraced Knows Steps) (sym added.0)
      (lengthened Knows Steps found traced place hart below s at t w known next (another t added.2))

-- An end more is listed.
pub end_more : {S W : Type 0} (Knows : S → Type 0) (Steps : S → ℕ → Option (Step S W) → Type 0) (found : Found S W)
    → AreTraced Knows Steps found → (place : ℕ) → IsEndAt Steps found place → (ends : List ℕ)
    → ends ≡ found.ends ++ place ∷ [] → AreTraced Knows Steps (record found { ends = ends })
end_more {S} {W} Knows Steps found traced place end ends pushed = record {
  tree = record {
    paired = traced.tree.paired;
    known = traced.tree.known;
    different = traced.tree.different;
    stepped = traced.tree.stepped;
  };
  filled = traced.filled;
  inside = traced.inside;
  ended = λ k is. by k (Contains-push_cases found.ends place k (subst (λ (l : List ℕ). Contains l k) pushed is));
}
  where
    by : (k : ℕ) → (Contains found.ends k) ⊎ (place ≡ k) → IsEndAt Steps found k
    by k (inl old) = traced.ended k old
    by k (inr here) = subst (IsEndAt Steps found) here end

-- It meets the goal.
pub met_at : {S W : Type 0} (Meets : S → Type 0) (found : Found S W) (place : ℕ) (s : S)
    → slice_get found.states place ≡ Some s → Meets s → (ends : List ℕ) → ends ≡ found.ends ++ place ∷ []
    → IsToldFor Meets (record found { ends = ends }) First
met_at Meets found place s at meets ends pushed =
    (place, s, subst (λ (l : List ℕ). Contains l place) (sym pushed) (Contains-push found.ends place), at, meets)

-- ---- What it comes to

module _ {S W : Type 0} (Knows : S → Type 0) (Steps : S → ℕ → Option (Step S W) → Type 0) (found : Found S W)
    (traced : AreTraced Knows Steps found) where
  pub is_part : (start : S) → slice_get found.states 0 ≡ Some start → (harts : ℕ) → found.harts ≡ harts
      → IsPart Steps harts start found
  is_part start first harts same = record {
    all_harts = same;
    first = first;
    different = traced.tree.different;
    origin = λ k t at.
        let o = origin_of Knows Steps found traced.tree k t at in
        (o.0, o.1, traced.tree.stepped k t o.0 at o.1);
    end = traced.ended;
    moved = reached Knows Steps found traced.tree start first;
  }

  pub tied_part : length found.states ≤ 2 ^ 32 → IsTied found.harts found.states found.origins found.edges found.ends
  tied_part few = record {
    few = few;
    paired = traced.tree.paired;
    before = parent_before Knows Steps found traced.tree;
    filled = traced.filled;
    inside = traced.inside;
    ends_inside = λ k is. let e = traced.ended k is in slice_get_within found.states k e.0 e.1;
  }
