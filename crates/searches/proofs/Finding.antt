-- What a search has when all of its states are swept.
use Rattle.std.proofs.Common.{◌≡◌, ◌≢◌, ℕ, ◌+◌, ◌*◌, ◌^◌, ◌<◌, ◌≤◌, [], ◌∷◌, length}
use Rattle.std.proofs.Common.{slice_get, Option, Some, refl, ap, subst, ◌∙◌, inl, inr, arith}
use Rattle.std.proofs.lemmas.List.Quantifiers.{all_pairs_push}
use Rattle.std.proofs.lemmas.Option.{slice_get_within}
use Rattle.searches.specs.declared.step.Step.{Step}
use Rattle.searches.specs.Found.{Found, IsGraph}
use Rattle.searches.specs.Sweeps.{IsSwept, IsTree}
use Rattle.searches.specs.Tied.{IsTied}
use Rattle.searches.proofs.Places.{push-cases}
use Rattle.searches.proofs.Edges.{before}
use Rattle.searches.proofs.Walking.{tree_of, origin_of, parent_before, reached, walk}

module _ {S W : Type 0} (Knows : S → Type 0) (Steps : S → ℕ → Option (Step S W) → Type 0) (place : ℕ)
    (found : Found S W)
    (swept : IsSwept Knows Steps place 0 found) (over : place ≡ length found.states) where
  abbrev tree : IsTree Knows Steps found
  tree = tree_of Knows Steps place 0 found swept.listed

  all_filled : length found.edges ≡ length found.states * found.harts
  all_filled = swept.listed.filled ∙ zero_more (place * found.harts) ∙ ap (λ n. n * found.harts) over
    where
      zero_more : (n : ℕ) → n + 0 ≡ n
      zero_more n = omega arith

  module _ (start : S) (first : slice_get found.states 0 ≡ Some start) where
    own_graph : IsGraph Steps found.harts start found
    own_graph = record {
      all_harts = refl;
      first = first;
      along = λ k h s at below.
          let inside = slice_get_within found.states k s at in
          swept.listed.along k h s at below
          (omega (arith, before k found.harts h (length found.states) inside below, all_filled));
      origin = λ k t at.
          let o = origin_of Knows Steps found tree k t at in
          (o.0, o.1, swept.listed.stepped k t o.0 at o.1, swept.told k o.0 o.1);
      end = λ k. (
        λ is.
            let below = swept.listed.ends_before k is in
            (omega (arith, below, over), (swept.listed.end k below).0 is),
        λ none. (swept.listed.end k (omega (arith, none.0, over))).1 none.1,
      );
      rising = swept.listed.rising;
      moved = reached Knows Steps found tree start first;
      shortest = λ k way f.
          let least = walk Knows Steps place 0 found swept.listed way 0 k
          (slice_get_within found.states 0 start first) f in
          omega (arith, least);
    }

    pub is_graph : (harts : ℕ) → found.harts ≡ harts → IsGraph Steps harts start found
    is_graph harts same = subst (λ n. IsGraph Steps n start found) same own_graph

  pub is_tied : length found.states ≤ 2 ^ 32
      → IsTied found.harts found.states found.origins found.edges found.ends
  is_tied few = record {
    few = few;
    paired = swept.listed.paired;
    before = parent_before Knows Steps found tree;
    filled = omega (arith, all_filled);
    inside = swept.listed.inside;
    ends_inside = λ k is. omega (arith, swept.listed.ends_before k is, over);
  }

-- A search begins with the start alone.
pub begun : {S W : Type 0} (Knows : S → Type 0) (Steps : S → ℕ → Option (Step S W) → Type 0) (start : S) (harts : ℕ)
    → Knows start
    → IsSwept {S = S} {W = W} Knows Steps 0 0
    (record { harts = harts; states = start ∷ []; origins = []; edges = []; ends = [] })
begun {S} {W} Knows Steps start harts known = record {
  listed = record {
    paired = refl;
    filled = omega arith;
    known = λ k t e.
        elim (push-cases [] start k t e) [
          | inl none ↦ absurd (omega (arith, slice_get_within [] k t none))
          | inr here ↦ subst Knows here.1 known
        ];
    different = all_pairs_push (λ s t. s ≢ t) [] start (λ i j d less below. absurd (omega (arith, below)))
        (λ k d below. absurd (omega (arith, below)));
    stepped = λ k t o e from. absurd (omega (arith, slice_get_within [] k o from));
    ordered = λ i j a b le e f. absurd (omega (arith, slice_get_within [] i a e));
    latest = λ k o e. absurd (omega (arith, slice_get_within [] k o e));
    along = λ k h s at below within. absurd (omega (arith, within));
    inside = λ i q e. absurd (omega (arith, slice_get_within [] i (Some q) e));
    near = λ k h q o below e from. absurd (omega (arith, slice_get_within [] q o from));
    end = λ k below. absurd (omega (arith, below));
    ends_before = λ k is. absurd (omega (arith, is.1));
    rising = λ i j d less below. absurd (omega (arith, below));
  };
  told = λ k o e. absurd (omega (arith, slice_get_within [] k o e));
}
