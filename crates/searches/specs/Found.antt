-- What a search finds: the graph of a machine's states, breadth first (Moore, "The shortest path
-- through a maze", 1959; Cormen and others, "Introduction to Algorithms", breadth-first search).
use Rattle.std.specs.Prelude.{◌≡◌, ℕ, zero, suc, ◌+◌, ◌*◌, ◌<◌, ◌≤◌, ◌≢◌, ◌↔◌, List, [], ◌∷◌, ◌++◌, length}
use Rattle.std.specs.Prelude.{slice_get, slice_index_or, Option, Some, None, Contains, AllPairs}
use Rattle.searches.specs.declared.moves.Move.{Move}
use Rattle.searches.specs.declared.origin.Origin.{Origin}
use Rattle.searches.specs.declared.step.Step.{Step}
use Rattle.searches.specs.declared.extent.Extent.{Extent}
use Rattle.searches.specs.declared.extent.Extent.TheVariants.{Whole, Beyond, First}
use Rattle.searches.specs.Orders.{Leads, IsReachable}

pub record Found (S W : Type 0) : Type 0 where
  pub harts : ℕ
  -- The states, in the order in which they were found. A state's place is its index.
  pub states : List S
  -- How each state but the first was found: of the one at place p + 1, the origin at p.
  pub origins : List (Origin W)
  -- The edge of each place and hart, at place * harts + hart: the place of the state after the step.
  pub edges : List (Option ℕ)
  -- The places in which no hart has a step.
  pub ends : List ℕ

abbrev pub edge_at : {S W : Type 0} → Found S W → ℕ → ℕ → Option ℕ
edge_at found place hart = slice_index_or found.edges (place * found.harts + hart) None

-- The moves that the origins tell: those to the state's parent, and then the hart's step. A parent
-- stands before its state, so that as many turns do as there are states before it.
abbrev pub moves_behind : {W : Type 0} → (ℕ → List (Move W)) → Option (Origin W) → List (Move W)
moves_behind to_parent None = []
moves_behind to_parent (Some o) = to_parent o.parent ++ record { hart = o.hart; way = o.way } ∷ []

abbrev pub moves_within : {W : Type 0} → ℕ → List (Origin W) → ℕ → List (Move W)
moves_within zero origins place = []
moves_within (suc turns) origins zero = []
moves_within (suc turns) origins (suc before) =
    moves_behind (λ parent. moves_within turns origins parent) (slice_get origins before)

abbrev pub moves_at : {W : Type 0} → List (Origin W) → ℕ → List (Move W)
moves_at origins place = moves_within place origins place

-- The edges of these harts are there, in turn, and lead from place p to place q.
abbrev pub Follows : {S W : Type 0} → Found S W → ℕ → List ℕ → ℕ → Type 0
Follows found p [] q = p ≡ q
Follows found p (h ∷ way) q =
    (n : ℕ) × (h < found.harts) × (edge_at found p h ≡ Some n) × Follows found n way q

-- An edge is what the hart's step from state s comes to.
abbrev pub IsEdge : {S W : Type 0} → (S → ℕ → Option (Step S W) → Type 0) → Found S W → S → ℕ → Option ℕ → Type 0
IsEdge Steps found s h None = Steps s h None
IsEdge {S} {W} Steps found s h (Some q) =
    (t : S) × (w : W) × (slice_get found.states q ≡ Some t) × Steps s h (Some (record { state = t; way = w }))

-- The state t at a place is the step of its origin's hart from its parent, which stands before it.
abbrev pub IsStepped : {S W : Type 0} → (S → ℕ → Option (Step S W) → Type 0) → Found S W → ℕ → S → Origin W → Type 0
IsStepped {S} Steps found place t o =
    (s : S) × (o.parent < place) × (o.hart < found.harts) × (slice_get found.states o.parent ≡ Some s)
    × Steps s o.hart (Some (record { state = t; way = o.way }))

-- What was found is the graph of the states to which steps lead from `start`.
pub record IsGraph {S W : Type 0} (Steps : S → ℕ → Option (Step S W) → Type 0) (harts : ℕ) (start : S)
    (found : Found S W) : Type 0
  where
    pub all_harts : found.harts ≡ harts
    pub first : slice_get found.states 0 ≡ Some start
    -- Each hart's step from each state is there, and leads to a state that is there.
    pub along : (place h : ℕ) (s : S) → slice_get found.states place ≡ Some s → h < harts
        → IsEdge Steps found s h (edge_at found place h)
    -- Each state but the first has an origin: it was found by that step, and by the edge of it.
    pub origin : (before : ℕ) (t : S) → slice_get found.states (before + 1) ≡ Some t
        → (o : Origin W) × (slice_get found.origins before ≡ Some o) × IsStepped Steps found (before + 1) t o
        × (edge_at found o.parent o.hart ≡ Some (before + 1))
    -- The ends are the places in which no hart has a step, and none is listed twice.
    pub end : (place : ℕ) → Contains found.ends place
        ↔ ((place < length found.states) × ((h : ℕ) → h < harts → edge_at found place h ≡ None))
    pub rising : AllPairs (λ k l. k < l) found.ends
    -- The moves of a state's origins lead to it, and no way along the edges is shorter.
    pub moved : (place : ℕ) (t : S) → slice_get found.states place ≡ Some t
        → Leads Steps start (moves_at found.origins place) t
    pub shortest : (place : ℕ) (way : List ℕ) → Follows found 0 way place
        → length (moves_at found.origins place) ≤ length way

-- More than so many states, pairwise different, can be reached.
abbrev pub Exceeds : {S W : Type 0} → (S → ℕ → Option (Step S W) → Type 0) → S → ℕ → Type 0
Exceeds {S} Steps start budget =
    (states : List S) × AllPairs (λ s t. s ≢ t) states × (budget < length states)
    × ((t : S) → Contains states t → IsReachable Steps start t)

-- Place k is that of an end: no hart has a step from its state.
abbrev pub IsEndAt : {S W : Type 0} → (S → ℕ → Option (Step S W) → Type 0) → Found S W → ℕ → Type 0
IsEndAt {S} Steps found k =
    (s : S) × (slice_get found.states k ≡ Some s) × ((h : ℕ) → h < found.harts → Steps s h None)

-- What was found is part of that graph: states to which steps lead from `start`, each once, and ends among them. Nothing
-- is said of what wasn't found.
pub record IsPart {S W : Type 0} (Steps : S → ℕ → Option (Step S W) → Type 0) (harts : ℕ) (start : S)
    (found : Found S W) : Type 0
  where
    pub all_harts : found.harts ≡ harts
    pub first : slice_get found.states 0 ≡ Some start
    pub different : AllPairs (λ s t. s ≢ t) found.states
    -- Each state but the first has an origin: it was found by that step.
    pub origin : (before : ℕ) (t : S) → slice_get found.states (before + 1) ≡ Some t
        → (o : Origin W) × (slice_get found.origins before ≡ Some o) × IsStepped Steps found (before + 1) t o
    -- What is listed as an end is one.
    pub end : (place : ℕ) → Contains found.ends place → IsEndAt Steps found place
    -- The moves of a state's origins lead to it.
    pub moved : (place : ℕ) (t : S) → slice_get found.states place ≡ Some t
        → Leads Steps start (moves_at found.origins place) t

-- All of the graph was found, by no more states than the budget; or a part of it, beyond the budget only where there is
-- more than that.
abbrev pub IsExplored : {S W : Type 0} → (S → ℕ → Option (Step S W) → Type 0) → ℕ → S → ℕ → Found S W → Extent → Type 0
IsExplored Steps harts start budget found Whole =
    IsGraph Steps harts start found × AllPairs (λ s t. s ≢ t) found.states × (length found.states ≤ budget)
IsExplored Steps harts start budget found Beyond =
    IsPart Steps harts start found × Exceeds Steps start budget
IsExplored Steps harts start budget found First = IsPart Steps harts start found

-- Where a search ended with the first end that meets its goal, that end is listed.
abbrev pub IsToldFor : {S W : Type 0} → (S → Type 0) → Found S W → Extent → Type 0
IsToldFor Meets found Whole = Unit {0}
IsToldFor Meets found Beyond = Unit {0}
IsToldFor {S} Meets found First =
    (place : ℕ) × (s : S) × Contains found.ends place × (slice_get found.states place ≡ Some s) × Meets s
