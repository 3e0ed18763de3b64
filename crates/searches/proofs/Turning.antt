-- All harts of a state were looked at, and the state is listed where none has a step.
use Rattle.std.proofs.Common.{◌≡◌, ℕ, ◌+◌, ◌*◌, ◌<◌, ◌⊎◌, ◌↔◌, Bool, true, false, cond, List, [], ◌∷◌, ◌++◌, length}
use Rattle.std.proofs.Common.{get_or}
use Rattle.std.proofs.Common.{Option, None, Some, is_some, Contains, sym, ap, subst, ◌∙◌, inl, inr, arith}
use Rattle.std.specs.List.{AllPairs}
use Rattle.std.proofs.lemmas.List.Quantifiers.{all_pairs_push}
use Rattle.std.proofs.lemmas.List.Elements.{Contains-push_cases, Contains-append_left, Contains-push}
use Rattle.std.proofs.lemmas.Option.{slice_get-get_or}
use Rattle.std.proofs.Math.Nat.{add-mul, one-mul}
use Rattle.searches.specs.declared.step.Step.{Step}
use Rattle.searches.specs.Found.{Found, edge_at}
use Rattle.searches.specs.Sweeps.{IsSwept, with_edge}
use Rattle.searches.proofs.Places.{contains_at}
use Rattle.searches.proofs.Edges.{old_edge, kept_edge, new_edge}
use Rattle.searches.proofs.Numbers.{less_or_same}

-- The harts below `hart` of a place were looked at, and `is_end` says that none has a step.
abbrev pub LookedIn : ℕ → List (Option ℕ) → ℕ → ℕ → Bool → Type 0
LookedIn harts edges place hart true = (h : ℕ) → h < hart → get_or edges (place * harts + h) None ≡ None
LookedIn harts edges place hart false = (h : ℕ) × (q : ℕ) × (h < hart)
    × (get_or edges (place * harts + h) None ≡ Some q)

abbrev pub Looked : {S W : Type 0} → Found S W → ℕ → ℕ → Bool → Type 0
Looked found place hart is_end = LookedIn found.harts found.edges place hart is_end

pub looked_first : {S W : Type 0} (found : Found S W) (place : ℕ) → Looked found place 0 true
looked_first found place h below = absurd (omega (arith, below))

module _ {S W : Type 0} (found : Found S W) (place hart : ℕ)
    (filled : length found.edges ≡ place * found.harts + hart) where
  one_more : (is_end : Bool) (edge : Option ℕ) → Looked found place hart is_end
      → Looked (with_edge found edge) place (hart + 1) (cond (is_some edge) false is_end)
  one_more true None looked = λ h below. by h (less_or_same h hart below)
    where
      by : (h : ℕ) → (h < hart) ⊎ (h ≡ hart) → edge_at (with_edge found None) place h ≡ None
      by h (inl b) = old_edge found None place h (omega (arith, b, filled)) ∙ looked h b
      by h (inr e) = new_edge found None place h (omega (arith, e, filled))
  one_more false None looked =
      (looked.0, looked.1, omega (arith, looked.2), kept_edge found None place looked.0 looked.1 looked.3)
  one_more is_end (Some q) looked =
      (hart, q, omega arith, new_edge found (Some q) place hart (sym filled))

  -- One more hart was looked at.
  pub looked_more : (new : Found S W) (edge : Option ℕ) → new.harts ≡ found.harts → new.edges ≡ found.edges ++ edge ∷ []
      → (is_end is_end' : Bool) → Looked found place hart is_end
      → ((is_some edge ≡ true) × (is_end' ≡ false)) ⊎ ((is_some edge ≡ false) × (is_end' ≡ is_end))
      → Looked new place (hart + 1) is_end'
  looked_more new edge harts edges is_end is_end' looked says =
      subst (λ n. LookedIn n new.edges place (hart + 1) is_end') (sym harts)
      (subst (λ (l : List (Option ℕ)). LookedIn found.harts l place (hart + 1) is_end') (sym edges)
      (subst (Looked (with_edge found edge) place (hart + 1)) (answer says) (one_more is_end edge looked)))
    where
      answer : ((is_some edge ≡ true) × (is_end' ≡ false)) ⊎ ((is_some edge ≡ false) × (is_end' ≡ is_end))
          → cond (is_some edge) false is_end ≡ is_end'
      answer (inl c) = ap (λ b. cond b false is_end) c.0 ∙ sym c.1
      answer (inr c) = ap (λ b. cond b false is_end) c.0 ∙ sym c.1

module _ {S W : Type 0} (Knows : S → Type 0) (Steps : S → ℕ → Option (Step S W) → Type 0) (place hart : ℕ)
    (found : Found S W)
    (swept : IsSwept Knows Steps place hart found) (all : hart ≡ found.harts) where
  turned : (ends : List ℕ)
      → ((k : ℕ) → k < place + 1 → (Contains ends k ↔ ((h : ℕ) → h < found.harts → edge_at found k h ≡ None)))
      → ((k : ℕ) → Contains ends k → k < place + 1) → AllPairs (λ k l. k < l) ends
      → IsSwept Knows Steps (place + 1) 0 (record found { ends = ends })
  turned ends exact before rising = record {
    listed = record {
      paired = swept.listed.paired;
      filled = omega (arith, swept.listed.filled, add-mul place 1 found.harts, one-mul found.harts, all);
      known = swept.listed.known;
      different = swept.listed.different;
      stepped = swept.listed.stepped;
      ordered = swept.listed.ordered;
      latest = λ k o e. omega (arith, swept.listed.latest k o e);
      along = swept.listed.along;
      inside = swept.listed.inside;
      near = swept.listed.near;
      end = exact;
      ends_before = before;
      rising = rising;
    };
    told = swept.told;
  }

  -- Some hart has a step.
  pub moves : Looked found place hart false → IsSwept Knows Steps (place + 1) 0 found
  moves looked = turned found.ends exact (λ k is. omega (arith, swept.listed.ends_before k is)) swept.listed.rising
    where
      nothing : (r : Option ℕ) (q : ℕ) → r ≡ Some q → r ≡ None → ⊥
      nothing r q e f = cc

      exact : (k : ℕ) → k < place + 1 → (Contains found.ends k ↔ ((h : ℕ) → h < found.harts → edge_at found k h ≡ None))
      exact k below = by (less_or_same k place below)
        where
          by : (k < place) ⊎ (k ≡ place)
              → (Contains found.ends k ↔ ((h : ℕ) → h < found.harts → edge_at found k h ≡ None))
          by (inl b) = swept.listed.end k b
          by (inr here) = (
            λ is. absurd (omega (arith, swept.listed.ends_before k is, here)),
            λ none. absurd (nothing (edge_at found place looked.0) looked.1 looked.3
                (subst (λ n. edge_at found n looked.0 ≡ None) here (none looked.0 (omega (arith, looked.2, all))))),
          )

  -- None has one.
  pub rests : Looked found place hart true → (ends : List ℕ) → ends ≡ found.ends ++ place ∷ []
      → IsSwept Knows Steps (place + 1) 0 (record found { ends = ends })
  rests looked ends pushed =
      subst (λ (l : List ℕ). IsSwept Knows Steps (place + 1) 0 (record found { ends = l })) (sym pushed)
      (turned (found.ends ++ place ∷ []) exact before rising)
    where
      before : (k : ℕ) → Contains (found.ends ++ place ∷ []) k → k < place + 1
      before k is =
          elim (Contains-push_cases found.ends place k is) [
            | inl old ↦ omega (arith, swept.listed.ends_before k old)
            | inr here ↦ omega (arith, here)
          ]

      rising : AllPairs (λ k l. k < l) (found.ends ++ place ∷ [])
      rising = all_pairs_push (λ k l. k < l) found.ends place swept.listed.rising
          (λ k d below. swept.listed.ends_before (get_or found.ends k d)
          (contains_at found.ends k (get_or found.ends k d) (slice_get-get_or found.ends k d below)))

      exact : (k : ℕ) → k < place + 1
          → (Contains (found.ends ++ place ∷ []) k ↔ ((h : ℕ) → h < found.harts → edge_at found k h ≡ None))
      exact k below = by (less_or_same k place below)
        where
          by : (k < place) ⊎ (k ≡ place)
              → (Contains (found.ends ++ place ∷ []) k ↔ ((h : ℕ) → h < found.harts → edge_at found k h ≡ None))
          by (inl b) =
              let old = swept.listed.end k b in (
                λ is. elim (Contains-push_cases found.ends place k is)
                    [ inl there ↦ old.0 there | inr here ↦ absurd (omega (arith, here, b)) ],
                λ end. Contains-append_left found.ends (place ∷ []) k (old.1 end),
              )
          by (inr here) = (
            λ _ h b. subst (λ n. edge_at found n h ≡ None) (sym here) (looked h (omega (arith, b, all))),
            λ _. subst (Contains (found.ends ++ place ∷ [])) (sym here) (Contains-push found.ends place),
          )
