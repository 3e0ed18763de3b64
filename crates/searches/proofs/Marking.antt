-- Marks, and what one more says.
use Rattle.std.proofs.Common.{◌≡◌, ◌≢◌, ℕ, zero, suc, ◌+◌, ◌-◌, ◌*◌, ◌<◌, ◌≤◌, ◌⊎◌, ◌↔◌, Bool, true, false, List}
use Rattle.std.proofs.Common.{[], ◌∷◌, length, get_or, set, replicate}
use Rattle.std.proofs.Common.{slice_get, Option, None, Some, Contains, refl, sym, ap, subst, ◌∙◌, inl, inr, arith}
use Rattle.std.proofs.Common.{true≢false}
use Rattle.std.specs.Prelude.{IfSome}
use Rattle.std.proofs.Math.Nat.{mul-le-mul_right}
use Rattle.std.proofs.lemmas.List.{length-set, length-replicate, get_or-set_same, get_or-set_other, get_or-replicate}
use Rattle.std.proofs.lemmas.Option.{slice_get_within, slice_get-get_or, get_or_from_slice_get}
use Rattle.searches.specs.Found.{Found, edge_at, Follows}
use Rattle.searches.specs.Ending.{CanEnd, IsLeastStuck}
use Rattle.searches.specs.Marks.{IsMarked, AreMarkedEnds, AreMarks, IsMarkedAfter, LeadsToMarked, IsLeft, unmarked}
use Rattle.searches.specs.Marks.{MarksFrom, MarksAt, IsFirstUnmarked}
use Rattle.searches.proofs.Numbers.{less_or_more, less_or_same, same_or_other}
use Rattle.searches.proofs.Places.{place_of, contains_at, same_element}
use Rattle.searches.proofs.Edges.{edge_within, read}

not_both : (r : Option Bool) → r ≡ Some true → r ≡ Some false → ⊥
not_both r e f = true≢false (got (sym e ∙ f))
  where
    got : Some true ≡ Some false → true ≡ false
    got x = cc

pub is_unmarked : (marks : List Bool) (place : ℕ) → place < length marks → get_or marks place false ≡ false
    → slice_get marks place ≡ Some false
is_unmarked marks place below e = slice_get-get_or marks place false below ∙ ap Some e

-- A mark more.
module _ (marks : List Bool) (place : ℕ) where
  pub marked_here : place < length marks → IsMarked (set marks place true) place
  marked_here below =
      slice_get-get_or (set marks place true) place true (omega (arith, below, length-set marks place true))
      ∙ ap Some (get_or-set_same marks place true true below)

  pub marked_still : (p : ℕ) → IsMarked marks p → IsMarked (set marks place true) p
  marked_still p e = by (same_or_other p place)
    where
      within : p < length marks
      within = slice_get_within marks p true e

      by : (p ≡ place) ⊎ (p ≢ place) → IsMarked (set marks place true) p
      by (inl same) = subst (IsMarked (set marks place true)) (sym same) (marked_here (omega (arith, within, same)))
      by (inr other) =
          slice_get-get_or (set marks place true) p true (omega (arith, within, length-set marks place true))
          ∙ ap Some (get_or-set_other marks place p true true other ∙ get_or_from_slice_get marks p true true e)

  pub marked-cases : (p : ℕ) → IsMarked (set marks place true) p → (p ≡ place) ⊎ IsMarked marks p
  marked-cases p e = by (same_or_other p place)
    where
      within : p < length marks
      within = omega (arith, slice_get_within (set marks place true) p true e, length-set marks place true)

      by : (p ≡ place) ⊎ (p ≢ place) → (p ≡ place) ⊎ IsMarked marks p
      by (inl same) = inl same
      by (inr other) =
          inr (slice_get-get_or marks p true within
          ∙ ap Some (sym (get_or-set_other marks place p true true other)
          ∙ get_or_from_slice_get (set marks place true) p true true e))

-- Fewer places are left.
pub unmarked-set : (marks : List Bool) (place : ℕ) → slice_get marks place ≡ Some false
    → unmarked (set marks place true) < unmarked marks
unmarked-set [] place e = absurd (omega (arith, slice_get_within [] place false e))
unmarked-set (true ∷ marks) zero e = absurd (not_both (Some true) refl e)
unmarked-set (false ∷ marks) zero e = omega arith
unmarked-set (true ∷ marks) (suc place) e = unmarked-set marks place e
unmarked-set (false ∷ marks) (suc place) e =
    let rest = unmarked-set marks place e in
    omega (arith, rest)

-- The first ends of a list are marked.
abbrev pub AreFirst : List ℕ → List Bool → ℕ → Type 0
AreFirst ends marks count =
    (place : ℕ) → IsMarked marks place ↔ ((k : ℕ) × (k < count) × (slice_get ends k ≡ Some place))

pub end_inside : (items ends : List ℕ) (count : ℕ) → items ≡ ends → ((place : ℕ) → Contains ends place → place < count)
    → (i : ℕ) → i < length items → (slice_get items i ≡ Some (get_or items i 0)) × (get_or items i 0 < count)
end_inside items ends count same inside i below =
    let at : slice_get items i ≡ Some (get_or items i 0) = slice_get-get_or items i 0 below in (
      at,
      inside (get_or items i 0)
          (subst (λ (l : List ℕ). Contains l (get_or items i 0)) same (contains_at items i (get_or items i 0) at)),
    )

pub first_more : (ends : List ℕ) (marks : List Bool) (i place : ℕ) → slice_get ends i ≡ Some place
    → place < length marks
    → AreFirst ends marks i → AreFirst ends (set marks place true) (i + 1)
first_more ends marks i place at below exact p = (
  λ e. elim (marked-cases marks place p e) [
    | inl here ↦ (i, omega arith, at ∙ ap Some (sym here))
    | inr old ↦ let w = (exact p).0 old in (w.0, omega (arith, w.1), w.2)
  ],
  λ w. by w.0 w.2 (less_or_same w.0 i w.1),
)
  where
    by : (k : ℕ) → slice_get ends k ≡ Some p → (k < i) ⊎ (k ≡ i) → IsMarked (set marks place true) p
    by k e (inl less) = marked_still marks place p ((exact p).1 (k, less, e))
    by k e (inr same) =
        let here : place ≡ p = same_element ends i place p at (subst (λ n. slice_get ends n ≡ Some p) same e) in
        subst (IsMarked (set marks place true)) here (marked_here marks place below)

pub first_none : (ends : List ℕ) (n : ℕ) → AreFirst ends (replicate n false) 0
first_none ends n place = (
  λ e.
      let below = slice_get_within (replicate n false) place true e in
      absurd (not_both (slice_get (replicate n false) place) e
      (slice_get-get_or (replicate n false) place false below
      ∙ ap Some (get_or-replicate n place false false (omega (arith, below, length-replicate n false))))),
  λ w. absurd (omega (arith, w.1)),
)

pub first_all : (items ends : List ℕ) → items ≡ ends → (marks : List Bool) (count : ℕ) → length items ≤ count
    → AreFirst items marks count
    → (place : ℕ) → IsMarked marks place ↔ Contains ends place
first_all items ends same marks count all exact place =
    subst (λ (l : List ℕ). IsMarked marks place ↔ Contains l place) same (
      λ e. let w = (exact place).0 e in contains_at items w.0 place w.2,
      λ there.
          let k = place_of items place there in
          (exact place).1 (k.0, omega (arith, slice_get_within items k.0 place k.1, all), k.1),
    )

module _ {S W : Type 0} (found : Found S W) where
  -- The ends can end.
  pub first_marks : (marks : List Bool) → AreMarkedEnds found marks → AreMarks found marks
  first_marks marks are = record {
    paired = are.paired;
    ends = λ place is. (are.exact place).1 is;
    sound = λ place e. ([], place, refl, (are.exact place).0 e);
  }

  can_end_after : (marks : List Bool) → AreMarks found marks → (place h : ℕ) → h < found.harts → (edge : Option ℕ)
      → edge_at found place h ≡ edge
      → IsMarkedAfter marks edge → CanEnd found place
  can_end_after marks are place h below None e is = absurd is
  can_end_after marks are place h below (Some q) e is =
      let w = are.sound q is in
      (h ∷ w.0, w.1, (q, below, e, w.2), w.3)

  -- A place is marked from which an edge leads to a marked one.
  pub marked_more : (marks : List Bool) (place : ℕ) → AreMarks found marks → LeadsToMarked found marks place
      → AreMarks found (set marks place true)
  marked_more marks place are leads = record {
    paired = length-set marks place true ∙ are.paired;
    ends = λ p is. marked_still marks place p (are.ends p is);
    sound = λ p e.
        elim (marked-cases marks place p e) [
          | inl here ↦ subst (CanEnd found) (sym here)
              (can_end_after marks are place leads.0 leads.1 (edge_at found place leads.0) refl leads.2)
          | inr old ↦ are.sound p old
        ];
  }

  -- One place more was looked at.
  module _ (place : ℕ) (old now new : List Bool) (above : 0 < place) where
    fewer : (is_more : Bool) → MarksFrom found place old now is_more → unmarked new < unmarked now
        → unmarked new < unmarked old
    fewer true from less = omega (arith, from, less)
    fewer false from less =
        let e : unmarked now ≡ unmarked old = ap unmarked from.0 in
        omega (arith, less, e)

    stays : (is_more : Bool) → MarksFrom found place old now is_more → MarksAt found (place - 1) now new false
        → MarksFrom found (place - 1) old new is_more
    stays true from at =
        let e : unmarked new ≡ unmarked now = ap unmarked at.0 in
        omega (arith, from, e)
    stays false from at = (at.0 ∙ from.0, left)
      where
        here_or_on : (p : ℕ) → place - 1 ≤ p → (place ≤ p) ⊎ (place - 1 ≡ p)
        here_or_on p le = by (less_or_more p place)
          where
            by : (p < place) ⊎ (place ≤ p) → (place ≤ p) ⊎ (place - 1 ≡ p)
            by (inl less) = inr (omega (arith, less, le, above))
            by (inr on) = inl on

        left : (p : ℕ) → place - 1 ≤ p → IsLeft found new p
        left p le = by (here_or_on p le)
          where
            by : (place ≤ p) ⊎ (place - 1 ≡ p) → IsLeft found new p
            by (inl on) = subst (λ (marks : List Bool). IsLeft found marks p) (sym at.0) (from.1 p on)
            by (inr here) = subst (IsLeft found new) here at.1

    pub from_marked : (is_more : Bool) → MarksFrom found place old now is_more → (marks_it : Bool) → marks_it ≡ true
        → MarksAt found (place - 1) now new marks_it → MarksFrom found (place - 1) old new true
    from_marked is_more from marks_it e at = fewer is_more from (subst (MarksAt found (place - 1) now new) e at)

    pub from_left : (is_more : Bool) → MarksFrom found place old now is_more → (marks_it : Bool) → marks_it ≡ false
        → MarksAt found (place - 1) now new marks_it → MarksFrom found (place - 1) old new is_more
    from_left is_more from marks_it e at = stays is_more from (subst (MarksAt found (place - 1) now new) e at)

  -- An edge leads to a place that is there.
  pub leads_inside : ((at q : ℕ) → slice_get found.edges at ≡ Some (Some q) → q < length found.states) → (count : ℕ)
      → count ≡ length found.states → (place h : ℕ) (edge : Option ℕ) → edge ≡ edge_at found place h
      → IfSome edge (λ q. q < count)
  leads_inside inside count same place h None e = tt
  leads_inside inside count same place h (Some q) e =
      omega (arith, inside (place * found.harts + h) q (read found.edges (place * found.harts + h) q (sym e)), same)

  -- No edge leads from beyond the last place.
  pub left_beyond : length found.edges ≤ length found.states * found.harts → (marks : List Bool) (place : ℕ)
      → length found.states ≤ place
      → IsLeft found marks place
  left_beyond filled marks place beyond leads = by (edge_at found place leads.0) refl leads.2
    where
      by : (edge : Option ℕ) → edge_at found place leads.0 ≡ edge → IsMarkedAfter marks edge → IsMarked marks place
      by None e is = absurd is
      by (Some q) e is =
          absurd (omega (arith, edge_within found place leads.0 q e, filled, mul-le-mul_right found.harts beyond))

  pub first_from : length found.edges ≤ length found.states * found.harts → (marks : List Bool)
      → MarksFrom found (length found.states) marks marks false
  first_from filled marks = (refl, left_beyond filled marks)

  -- Where all places are left, those are marked from which some way leads to an end.
  module _ (marks : List Bool) (are : AreMarks found marks) (left : (place : ℕ) → IsLeft found marks place) where
    marked_by : (way : List ℕ) (place last : ℕ) → Follows found place way last → Contains found.ends last
        → IsMarked marks place
    marked_by [] place last e is = subst (IsMarked marks) (sym e) (are.ends last is)
    marked_by (h ∷ way) place last f is =
        left place (h, f.1, subst (IsMarkedAfter marks) (sym f.2) (marked_by way f.0 last f.3 is))

    pub least_stuck : (answer : Option ℕ) → IsFirstUnmarked marks answer → IsLeastStuck found answer
    least_stuck None all = λ place below. are.sound place (all place (omega (arith, below, are.paired)))
    least_stuck (Some place) first = (
      omega (arith, first.0, are.paired),
      λ can. not_both (slice_get marks place) (marked_by can.0 place can.1 can.2 can.3) first.1,
      λ k below. are.sound k (first.2 k below),
    )
