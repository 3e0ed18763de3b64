-- What noting the state of a step comes to.
use Rattle.std.proofs.Common.{◌≡◌, ◌≢◌, ℕ, ◌+◌, ◌<◌, ◌≤◌, ◌⊎◌, Bool, true, false, List, [], ◌∷◌, ◌++◌, length}
use Rattle.std.proofs.Common.{get_or, not}
use Rattle.std.proofs.Common.{slice_get, Option, Some, Contains, refl, sym, ap, subst, ◌∙◌, inl, inr, arith}
use Rattle.std.proofs.Common.{true≢false, if◌then◌else◌, length-append}
use Rattle.std.specs.List.{list_any}
use Rattle.std.specs.Cmp.{IsEquivalence}
use Rattle.std.proofs.lemmas.List.Quantifiers.{all_pairs_push}
use Rattle.std.proofs.lemmas.List.Elements.{Contains-push_cases}
use Rattle.std.proofs.lemmas.Map.Views.{list_any-from_Contains}
use Rattle.std.proofs.lemmas.List.Folds.{list_any_at}
use Rattle.std.proofs.lemmas.Option.{slice_get-get_or, slice_get_within, get_or_from_slice_get}
use Rattle.indexmap.specs.IndexSet.{insert_key}
use Rattle.searches.specs.declared.origin.Origin.{Origin}
use Rattle.searches.specs.declared.step.Step.{Step}
use Rattle.searches.specs.Found.{Found}
use Rattle.searches.specs.Sweeps.{IsSwept, IsNoted, Keeps, with_edge, with_state}
use Rattle.searches.proofs.Places.{contains_at, push-old, push-cases}
use Rattle.searches.proofs.Adding.{follows_old, follows_new}

-- What `insert_full` answers, in these words.
module _ {S W : Type 0} (eq : S → S → Bool) (old : Found S W) (state : S) (place : ℕ)
    (keys : List S) (inserted : keys ≡ insert_key eq old.states state)
    (stored : (k : S) × (slice_get keys place ≡ Some k) × (eq state k ≡ true)) where
  abbrev Keys : Bool → Type 0
  Keys there = keys ≡ (if there then old.states else old.states ++ state ∷ [])

  -- It was there.
  pub kept_keys : list_any (eq state) old.states ≡ true → keys ≡ old.states
  kept_keys e = subst Keys e inserted

  pub stood : list_any (eq state) old.states ≡ true → (s : S) × (slice_get old.states place ≡ Some s)
      × (eq state s ≡ true)
  stood e = (stored.0, subst (λ (l : List S). slice_get l place ≡ Some stored.0) (kept_keys e) stored.1, stored.2)

  -- It is new.
  pub longer_keys : list_any (eq state) old.states ≡ false → keys ≡ old.states ++ state ∷ []
  longer_keys e = subst Keys e inserted

  pub stands_last : list_any (eq state) old.states ≡ false → place ≡ length old.states
  stands_last e =
      by (push-cases old.states state place stored.0
      (subst (λ (l : List S). slice_get l place ≡ Some stored.0) (longer_keys e) stored.1))
    where
      by : (slice_get old.states place ≡ Some stored.0) ⊎ ((place ≡ length old.states) × (state ≡ stored.0))
          → place ≡ length old.states
      by (inl there) =
          let within = slice_get_within old.states place stored.0 there in
          let is : eq state (get_or old.states place stored.0) ≡ true =
          ap (eq state) (get_or_from_slice_get old.states place stored.0 stored.0 there) ∙ stored.2 in
          absurd (true≢false (sym (list_any_at (eq state) old.states place stored.0 within is) ∙ e))
      by (inr last) = last.0

-- What was found keeps its place, and there is one state more at the most, among which that at the place is.
module _ {S W : Type 0} (eq : S → S → Bool) (old : Found S W) (state : S) (origin : Origin W)
    (new : Found S W) (place : ℕ) where
  pub keeps : IsNoted eq old state origin new place → Keeps old.states new.states
  keeps (inl there) k x e = subst (λ (f : Found S W). slice_get f.states k ≡ Some x) (sym there.0) e
  keeps (inr added) k x e = subst (λ (f : Found S W). slice_get f.states k ≡ Some x) (sym added.0)
      (push-old old.states state k x e)

  pub one_more : IsNoted eq old state origin new place → length new.states ≤ length old.states + 1
  one_more (inl there) = subst (λ (f : Found S W). length f.states ≤ length old.states + 1) (sym there.0) (omega arith)
  one_more (inr added) =
      subst (λ (f : Found S W). length f.states ≤ length old.states + 1) (sym added.0)
      (omega (arith, length-append old.states (state ∷ [])))

  pub harts_stay : IsNoted eq old state origin new place → new.harts ≡ old.harts
  harts_stay (inl there) = ap (λ (f : Found S W). f.harts) there.0
  harts_stay (inr added) = ap (λ (f : Found S W). f.harts) added.0

  pub stands_inside : IsNoted eq old state origin new place → place < length new.states
  stands_inside (inl there) =
      let within = slice_get_within old.states place there.1.0 there.1.1 in
      subst (λ (f : Found S W). place < length f.states) (sym there.0) within
  stands_inside (inr added) =
      subst (λ (f : Found S W). place < length f.states) (sym added.0)
      (omega (arith, length-append old.states (state ∷ []), added.1))

module _ {S W : Type 0} (eq : S → S → Bool) (laws : IsEquivalence eq) (same : (x y : S) → eq x y ≡ true → x ≡ y)
    (Knows : S → Type 0) (Steps : S → ℕ → Option (Step S W) → Type 0) (place hart : ℕ) (found : Found S W)
    (swept : IsSwept Knows Steps place hart found) (s : S) (at : slice_get found.states place ≡ Some s)
    (t : S) (w : W) (next : Steps s hart (Some (record { state = t; way = w }))) where
  another : list_any (eq t) found.states ≡ false → (k : ℕ) → slice_get found.states k ≡ Some t → ⊥
  another e k there =
      true≢false (sym (list_any-from_Contains laws t found.states (contains_at found.states k t there)) ∙ e)

  -- The step leads to where its state was noted.
  pub noted : hart < found.harts → Knows t → (new : Found S W) (q : ℕ)
      → IsNoted eq found t (record { parent = place; hart = hart; way = w }) new q
      → IsSwept Knows Steps place (hart + 1) (with_edge new (Some q))
  noted below known new q (inl there) =
      let (x, stands, equal) = there.1 in
      let here : slice_get found.states q ≡ Some t = stands ∙ ap Some (sym (same t x equal)) in
      subst (λ (f : Found S W). IsSwept Knows Steps place (hart + 1) (with_edge f (Some q))) (sym there.0)
      (follows_old Knows Steps place hart found swept below s at (Some q) (t, w, here, next))
  noted below known new q (inr added) =
      subst (λ (f : Found S W). IsSwept Knows Steps place (hart + 1) (with_edge f (Some q))) (sym added.0)
      (subst (λ n. IsSwept Knows Steps place (hart + 1)
      (with_edge (with_state found t (record { parent = place; hart = hart; way = w })) (Some n))) (sym added.1)
      (follows_new Knows Steps place hart found swept below s at t w known next (another added.2)))

-- It is new where it wasn't there.
pub is_absent : (there is_new : Bool) → is_new ≡ not there → is_new ≡ true → there ≡ false
is_absent true is_new e f = absurd (true≢false (sym f ∙ e))
is_absent false is_new e f = refl

-- It was there where it isn't new.
pub is_there : (there is_new : Bool) → is_new ≡ not there → is_new ≡ false → there ≡ true
is_there true is_new e f = refl
is_there false is_new e f = absurd (true≢false (sym e ∙ f))
