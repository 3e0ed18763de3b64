-- One more edge, and one more state.
use Rattle.std.proofs.Common.{◌≡◌, ◌≢◌, ℕ, ◌+◌, ◌*◌, ◌<◌, ◌≤◌, ◌⊎◌, ◌↔◌, [], ◌∷◌, ◌++◌, length}
use Rattle.std.proofs.Common.{slice_get, Option, None, Some, Contains, sym, ap, subst, ◌∙◌, inl, inr, arith}
use Rattle.std.proofs.Common.{length-append}
use Rattle.std.proofs.lemmas.List.Quantifiers.{all_pairs_push}
use Rattle.std.proofs.lemmas.Option.{slice_get_within, slice_get-get_or}
use Rattle.searches.specs.declared.origin.Origin.{Origin}
use Rattle.searches.specs.declared.step.Step.{Step}
use Rattle.searches.specs.Found.{Found, edge_at, IsEdge, IsStepped}
use Rattle.searches.specs.Sweeps.{AreListed, IsSwept, with_edge, with_state}
use Rattle.searches.proofs.Numbers.{less_or_same}
use Rattle.searches.proofs.Places.{push-old, push-new, push-cases, same_element}
use Rattle.searches.proofs.Edges.{before, one_index, read, old_edge, kept_edge, new_edge, edge-cases, edge_stays}

module _ {S W : Type 0} (Knows : S → Type 0) (Steps : S → ℕ → Option (Step S W) → Type 0) (place hart : ℕ)
    (found : Found S W)
    (listed : AreListed Knows Steps place hart found) (below : hart < found.harts) where
  -- The index of the edge that comes next.
  here : (k h : ℕ) → h < found.harts → k * found.harts + h ≡ length found.edges → (k ≡ place) × (h ≡ hart)
  here k h b e = one_index k place found.harts h hart b below (omega (arith, e, listed.filled))

  earlier : (k h : ℕ) → k < place → h < found.harts → k * found.harts + h < length found.edges
  earlier k h less b = omega (arith, before k found.harts h place less b, listed.filled)

  -- The edge is kept: `s` is the state at the place, and `edge` what its hart's step comes to.
  module _ (s : S) (at : slice_get found.states place ≡ Some s) (edge : Option ℕ)
      (is : IsEdge Steps found s hart edge) where
    abbrev edged_found : Found S W
    edged_found = with_edge found edge

    leads_inside : (e : Option ℕ) (q : ℕ) → IsEdge Steps found s hart e → e ≡ Some q → q < length found.states
    leads_inside None q i e = absurd (nothing e)
      where
        nothing : None ≡ Some q → ⊥
        nothing x = cc
    leads_inside (Some p) q i e =
        let same : p ≡ q = got e in
        subst (λ n. n < length found.states) same (slice_get_within found.states p i.0 i.2)
      where
        got : Some p ≡ Some q → p ≡ q
        got x = cc

    along_edged : (k h : ℕ) (s' : S) → slice_get found.states k ≡ Some s' → h < found.harts
        → k * found.harts + h < length (found.edges ++ edge ∷ []) → IsEdge Steps edged_found s' h
        (edge_at edged_found k h)
    along_edged k h s' at' b within =
        by (less_or_same (k * found.harts + h) (length found.edges)
        (omega (arith, within, length-append found.edges (edge ∷ []))))
      where
        by : (k * found.harts + h < length found.edges) ⊎ (k * found.harts + h ≡ length found.edges)
            → IsEdge Steps edged_found s' h (edge_at edged_found k h)
        by (inl old) =
            subst (λ (x : Option ℕ). IsEdge Steps edged_found s' h x) (sym (old_edge found edge k h old))
            (edge_stays Steps found edged_found s' h (edge_at found k h) (λ j x e. e) (listed.along k h s' at' b old))
        by (inr new) =
            let w = here k h b new in
            let same : s ≡ s' =
            same_element found.states place s s' at (subst (λ n. slice_get found.states n ≡ Some s') w.0 at') in
            subst (λ (x : Option ℕ). IsEdge Steps edged_found s' h x) (sym (new_edge found edge k h new))
            (edge_stays Steps found edged_found s' h edge (λ j x e. e)
            (subst (λ n. IsEdge Steps found s' n edge) (sym w.1) (subst (λ x. IsEdge Steps found x hart edge) same is)))

    near_edged : (k h q : ℕ) (o : Origin W) → h < found.harts → edge_at edged_found k h ≡ Some (q + 1)
        → slice_get found.origins q ≡ Some o → o.parent ≤ k
    near_edged k h q o b e from = by (edge-cases found edge k h (q + 1) e)
      where
        by : (edge_at found k h ≡ Some (q + 1))
            ⊎ ((k * found.harts + h ≡ length found.edges) × (edge ≡ Some (q + 1))) → o.parent ≤ k
        by (inl old) = listed.near k h q o b old from
        by (inr new) =
            let w = here k h b new.0 in
            omega (arith, w.0, listed.latest q o from)

    end_edged : (k : ℕ) → k < place
        → (Contains found.ends k ↔ ((h : ℕ) → h < found.harts → edge_at edged_found k h ≡ None))
    end_edged k less = (
      λ end h b. old_edge found edge k h (earlier k h less b) ∙ (listed.end k less).0 end h b,
      λ none. (listed.end k less).1 (λ h b. sym (old_edge found edge k h (earlier k h less b)) ∙ none h b),
    )

    pub edged : AreListed Knows Steps place (hart + 1) edged_found
    edged = record {
      paired = listed.paired;
      filled = omega (arith, length-append found.edges (edge ∷ []), listed.filled);
      known = listed.known;
      different = listed.different;
      stepped = listed.stepped;
      ordered = listed.ordered;
      latest = listed.latest;
      along = along_edged;
      inside = λ i q e.
          elim (push-cases found.edges edge i (Some q) e)
          [ inl old ↦ listed.inside i q old | inr new ↦ leads_inside edge q is new.1 ];
      near = near_edged;
      end = end_edged;
      ends_before = listed.ends_before;
      rising = listed.rising;
    }

  -- A state goes last, found by a step from that at the place.
  module _ (s : S) (at : slice_get found.states place ≡ Some s) (t : S) (w : W) (known : Knows t)
      (next : Steps s hart (Some (record { state = t; way = w })))
      (absent : (k : ℕ) → slice_get found.states k ≡ Some t → ⊥) where
    abbrev origin : Origin W
    origin = record { parent = place; hart = hart; way = w }

    abbrev longer : Found S W
    longer = with_state found t origin

    inside_at : place < length found.states
    inside_at = slice_get_within found.states place s at

    stepped_longer : (k : ℕ) (t' : S) (o : Origin W) → slice_get longer.states (k + 1) ≡ Some t'
        → slice_get longer.origins k ≡ Some o
        → IsStepped Steps longer (k + 1) t' o
    stepped_longer k t' o e from =
        by (push-cases found.states t (k + 1) t' e) (push-cases found.origins origin k o from)
      where
        by : (slice_get found.states (k + 1) ≡ Some t') ⊎ ((k + 1 ≡ length found.states) × (t ≡ t'))
            → (slice_get found.origins k ≡ Some o) ⊎ ((k ≡ length found.origins) × (origin ≡ o))
            → IsStepped Steps longer (k + 1) t' o
        by (inl a) (inl b) =
            let f = listed.stepped k t' o a b in
            (f.0, f.1, f.2, push-old found.states t o.parent f.0 f.3, f.4)
        by (inl a) (inr b) = absurd (omega (arith, slice_get_within found.states (k + 1) t' a, b.0, listed.paired))
        by (inr a) (inl b) = absurd (omega (arith, slice_get_within found.origins k o b, a.0, listed.paired))
        by (inr a) (inr b) =
            subst (λ (x : Origin W). IsStepped Steps longer (k + 1) t' x) b.1 (
              s,
              omega (arith, inside_at, a.0),
              below,
              push-old found.states t place s at,
              subst (λ x. Steps s hart (Some (record { state = x; way = w }))) a.1 next,
            )

    latest_longer : (k : ℕ) (o : Origin W) → slice_get longer.origins k ≡ Some o → o.parent ≤ place
    latest_longer k o e = by (push-cases found.origins origin k o e)
      where
        by : (slice_get found.origins k ≡ Some o) ⊎ ((k ≡ length found.origins) × (origin ≡ o)) → o.parent ≤ place
        by (inl old) = listed.latest k o old
        by (inr last) = omega (arith, ap (λ (x : Origin W). x.parent) last.1)

    ordered_longer : (i j : ℕ) (a b : Origin W) → i ≤ j → slice_get longer.origins i ≡ Some a
        → slice_get longer.origins j ≡ Some b
        → a.parent ≤ b.parent
    ordered_longer i j a b le e f = by (push-cases found.origins origin i a e) (push-cases found.origins origin j b f)
      where
        by : (slice_get found.origins i ≡ Some a) ⊎ ((i ≡ length found.origins) × (origin ≡ a))
            → (slice_get found.origins j ≡ Some b) ⊎ ((j ≡ length found.origins) × (origin ≡ b)) → a.parent ≤ b.parent
        by (inl x) (inl y) = listed.ordered i j a b le x y
        by (inl x) (inr y) = omega (arith, listed.latest i a x, ap (λ (z : Origin W). z.parent) y.1)
        by (inr x) (inl y) = absurd (omega (arith, slice_get_within found.origins j b y, x.0, le))
        by (inr x) (inr y) = omega (arith, ap (λ (z : Origin W). z.parent) x.1, ap (λ (z : Origin W). z.parent) y.1)

    -- A state whose edge is there isn't the new one.
    old_state : (k h : ℕ) (x : S) → k * found.harts + h < length found.edges → slice_get longer.states k ≡ Some x
        → slice_get found.states k ≡ Some x
    old_state k h x within e = by (push-cases found.states t k x e)
      where
        by : (slice_get found.states k ≡ Some x) ⊎ ((k ≡ length found.states) × (t ≡ x))
            → slice_get found.states k ≡ Some x
        by (inl old) = old
        by (inr new) =
            absurd (omega (
              arith,
              before place found.harts hart k (omega (arith, new.0, inside_at)) below,
              within,
              listed.filled,
            ))

    near_longer : (k h q : ℕ) (o : Origin W) → h < found.harts → edge_at found k h ≡ Some (q + 1)
        → slice_get longer.origins q ≡ Some o → o.parent ≤ k
    near_longer k h q o b e from = by (push-cases found.origins origin q o from)
      where
        by : (slice_get found.origins q ≡ Some o) ⊎ ((q ≡ length found.origins) × (origin ≡ o)) → o.parent ≤ k
        by (inl old) = listed.near k h q o b e old
        by (inr last) =
            absurd (omega (
              arith,
              listed.inside (k * found.harts + h) (q + 1)
                  (read found.edges (k * found.harts + h) (q + 1) e),
              last.0,
              listed.paired,
            ))

    pub lengthened : AreListed Knows Steps place hart longer
    lengthened = record {
      paired = omega (
        arith,
        length-append found.origins (origin ∷ []),
        length-append found.states (t ∷ []),
        listed.paired,
      );
      filled = listed.filled;
      known = λ k x e.
          elim (push-cases found.states t k x e) [ inl old ↦ listed.known k x old | inr new ↦ subst Knows new.1 known ];
      different = all_pairs_push (λ x y. x ≢ y) found.states t listed.different
          (λ k d less e. absent k (slice_get-get_or found.states k d less ∙ ap Some e));
      stepped = stepped_longer;
      ordered = ordered_longer;
      latest = latest_longer;
      along = λ k h x e b within.
          edge_stays Steps found longer x h (edge_at found k h) (λ j y e'. push-old found.states t j y e')
          (listed.along k h x (old_state k h x within e) b within);
      inside = λ i q e. omega (arith, listed.inside i q e, length-append found.states (t ∷ []));
      near = near_longer;
      end = listed.end;
      ends_before = listed.ends_before;
      rising = listed.rising;
    }

-- The hart has no step, or one that leads to a state that was there.
pub follows_old : {S W : Type 0} (Knows : S → Type 0) (Steps : S → ℕ → Option (Step S W) → Type 0) (place hart : ℕ)
    (found : Found S W)
    → IsSwept Knows Steps place hart found → hart < found.harts → (s : S) → slice_get found.states place ≡ Some s
    → (edge : Option ℕ) → IsEdge Steps found s hart edge → IsSwept Knows Steps place (hart + 1) (with_edge found edge)
follows_old Knows Steps place hart found swept below s at edge is = record {
  listed = edged Knows Steps place hart found swept.listed below s at edge is;
  told = λ k o e. kept_edge found edge o.parent o.hart (k + 1) (swept.told k o e);
}

-- It has one that leads to a new state.
module _ {S W : Type 0} (Knows : S → Type 0) (Steps : S → ℕ → Option (Step S W) → Type 0) (place hart : ℕ)
    (found : Found S W)
    (swept : IsSwept Knows Steps place hart found) (below : hart < found.harts) (s : S)
    (at : slice_get found.states place ≡ Some s)
    (t : S) (w : W) where
  abbrev from : Origin W
  from = record { parent = place; hart = hart; way = w }

  abbrev grown_found : Found S W
  grown_found = with_state found t from

  told_new : (k : ℕ) (o : Origin W) → (slice_get found.origins k ≡ Some o) ⊎ ((k ≡ length found.origins) × (from ≡ o))
      → edge_at (with_edge grown_found (Some (length found.states))) o.parent o.hart ≡ Some (k + 1)
  told_new k o (inl old) = kept_edge grown_found (Some (length found.states)) o.parent o.hart (k + 1)
      (swept.told k o old)
  told_new k o (inr last) =
      let count : length found.states ≡ k + 1 = omega (arith, last.0, swept.listed.paired) in
      subst (λ (x : Origin W). edge_at (with_edge grown_found (Some (length found.states))) x.parent x.hart ≡ Some
      (k + 1)) last.1
      (new_edge grown_found (Some (length found.states)) place hart (sym swept.listed.filled) ∙ ap Some count)

  pub follows_new : Knows t → Steps s hart (Some (record { state = t; way = w }))
      → ((k : ℕ) → slice_get found.states k ≡ Some t → ⊥)
      → IsSwept Knows Steps place (hart + 1) (with_edge grown_found (Some (length found.states)))
  follows_new known next absent = record {
    listed = edged Knows Steps place hart grown_found
        (lengthened Knows Steps place hart found swept.listed below s at t w known next absent) below s
        (push-old found.states t place s at) (Some (length found.states)) (t, w, push-new found.states t, next);
    told = λ k o e. told_new k o (push-cases found.origins from k o e);
  }
