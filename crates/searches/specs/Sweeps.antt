-- What a search has while it goes on.
use Rattle.std.specs.Prelude.{◌≡◌, ◌≢◌, ℕ, ◌+◌, ◌*◌, ◌<◌, ◌≤◌, ◌↔◌, ◌⊎◌, Bool, true, false, List, [], ◌∷◌, ◌++◌, length}
use Rattle.std.specs.Prelude.{slice_get, Option, Some, None, Contains, AllPairs}
use Rattle.std.specs.List.{list_any}
use Rattle.searches.specs.declared.origin.Origin.{Origin}
use Rattle.searches.specs.declared.step.Step.{Step}
use Rattle.searches.specs.declared.sweep.Sweep.{Sweep}
use Rattle.searches.specs.declared.extent.Extent.{Extent}
use Rattle.searches.specs.declared.extent.Extent.TheVariants.{Whole, Beyond, First}
use Rattle.searches.specs.Found.{Found, edge_at, IsEdge, IsStepped, IsEndAt, IsToldFor}

-- What a sweep has found so far.
abbrev pub found_by : {S W : Type 0} → Sweep S W → Found S W
found_by sweep = record {
  harts = sweep.harts;
  states = sweep.states.keys;
  origins = sweep.origins.items;
  edges = sweep.edges.items;
  ends = sweep.ends.items;
}

-- One more edge; one more state, with its origin.
abbrev pub with_edge : {S W : Type 0} → Found S W → Option ℕ → Found S W
with_edge found edge = record found { edges = found.edges ++ edge ∷ [] }

abbrev pub with_state : {S W : Type 0} → Found S W → S → Origin W → Found S W
with_state found t o = record found { states = found.states ++ t ∷ []; origins = found.origins ++ o ∷ [] }

-- What is old keeps its place.
abbrev pub Keeps : {A : Type 0} → List A → List A → Type 0
Keeps {A} old new =
    (place : ℕ) (x : A) → slice_get old place ≡ Some x → slice_get new place ≡ Some x

-- A state is noted at a place: where it was, or last with its origin.
abbrev pub IsNoted : {S W : Type 0} → (S → S → Bool) → Found S W → S → Origin W → Found S W → ℕ → Type 0
IsNoted {S} eq old state origin new place =
    ((new ≡ old) × ((s : S) × (slice_get old.states place ≡ Some s) × (eq state s ≡ true)))
    ⊎ ((new ≡ with_state old state origin) × (place ≡ length old.states)
    × (list_any (eq state) old.states ≡ false))

-- The states are known, each stands once, and each but the first was found by the step of its origin.
pub record IsTree {S W : Type 0} (Knows : S → Type 0) (Steps : S → ℕ → Option (Step S W) → Type 0) (found : Found S W)
    : Type 0 where
  pub paired : length found.origins + 1 ≡ length found.states
  pub known : (k : ℕ) (t : S) → slice_get found.states k ≡ Some t → Knows t
  pub different : AllPairs (λ s t. s ≢ t) found.states
  pub stepped : (k : ℕ) (t : S) (o : Origin W) → slice_get found.states (k + 1) ≡ Some t
      → slice_get found.origins k ≡ Some o → IsStepped Steps found (k + 1) t o

-- What is left of a sweep that ends early, and stays so while the search goes on in other ways.
pub record AreTraced {S W : Type 0} (Knows : S → Type 0) (Steps : S → ℕ → Option (Step S W) → Type 0) (found : Found S W)
    : Type 0 where
  pub tree : IsTree Knows Steps found
  pub filled : length found.edges ≤ length found.states * found.harts
  pub inside : (at q : ℕ) → slice_get found.edges at ≡ Some (Some q) → q < length found.states
  pub ended : (k : ℕ) → Contains found.ends k → IsEndAt Steps found k

-- The lists, where all states before `place` are swept, and the harts below `hart` of that at `place`.
pub record AreListed {S W : Type 0} (Knows : S → Type 0) (Steps : S → ℕ → Option (Step S W) → Type 0) (place hart : ℕ)
    (found : Found S W) : Type 0 where
  pub paired : length found.origins + 1 ≡ length found.states
  pub filled : length found.edges ≡ place * found.harts + hart
  pub known : (k : ℕ) (t : S) → slice_get found.states k ≡ Some t → Knows t
  pub different : AllPairs (λ s t. s ≢ t) found.states
  pub stepped : (k : ℕ) (t : S) (o : Origin W) → slice_get found.states (k + 1) ≡ Some t
      → slice_get found.origins k ≡ Some o → IsStepped Steps found (k + 1) t o
  -- Those found first were found from those that were found first.
  pub ordered : (i j : ℕ) (a b : Origin W) → i ≤ j → slice_get found.origins i ≡ Some a
      → slice_get found.origins j ≡ Some b → a.parent ≤ b.parent
  pub latest : (k : ℕ) (o : Origin W) → slice_get found.origins k ≡ Some o → o.parent ≤ place
  -- An edge that is there is the hart's step, and leads to a state that was found no later.
  pub along : (k h : ℕ) (s : S) → slice_get found.states k ≡ Some s → h < found.harts
      → k * found.harts + h < length found.edges → IsEdge Steps found s h (edge_at found k h)
  pub inside : (at q : ℕ) → slice_get found.edges at ≡ Some (Some q) → q < length found.states
  pub near : (k h q : ℕ) (o : Origin W) → h < found.harts → edge_at found k h ≡ Some (q + 1)
      → slice_get found.origins q ≡ Some o → o.parent ≤ k
  pub end : (k : ℕ) → k < place → (Contains found.ends k ↔ ((h : ℕ) → h < found.harts → edge_at found k h ≡ None))
  pub ends_before : (k : ℕ) → Contains found.ends k → k < place
  pub rising : AllPairs (λ k l. k < l) found.ends

-- And each state was found by an edge that is there.
pub record IsSwept {S W : Type 0} (Knows : S → Type 0) (Steps : S → ℕ → Option (Step S W) → Type 0) (place hart : ℕ)
    (found : Found S W) : Type 0 where
  pub listed : AreListed Knows Steps place hart found
  pub told : (k : ℕ) (o : Origin W) → slice_get found.origins k ≡ Some o → edge_at found o.parent o.hart ≡ Some (k + 1)

-- Why a search ends early: there are more states than the budget, or an end was found that meets the goal.
abbrev pub IsEndedFor : {S W : Type 0} → (S → Type 0) → ℕ → Found S W → Extent → Type 0
IsEndedFor Meets budget found Whole = ⊥
IsEndedFor Meets budget found Beyond = budget < length found.states
IsEndedFor Meets budget found First = IsToldFor Meets found First

-- What a sweep has when it is over: all states are swept, and are no more than the budget; or it ended early.
abbrev pub IsSweptAs : {S W : Type 0} → (S → Type 0) → (S → ℕ → Option (Step S W) → Type 0) → (S → Type 0) → ℕ → Found S W
    → Extent → Type 0
IsSweptAs Knows Steps Meets budget found Whole =
    IsSwept Knows Steps (length found.states) 0 found × (length found.states ≤ budget)
IsSweptAs Knows Steps Meets budget found Beyond = AreTraced Knows Steps found × (budget < length found.states)
IsSweptAs Knows Steps Meets budget found First = AreTraced Knows Steps found × IsToldFor Meets found First

-- The same of an answer, where none says that the search goes on.
abbrev pub IsEndedIf : {S W : Type 0} → (S → Type 0) → ℕ → Found S W → Option Extent → Type 0
IsEndedIf Meets budget found None = Unit {0}
IsEndedIf Meets budget found (Some extent) = IsEndedFor Meets budget found extent
