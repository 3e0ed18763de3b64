-- Marks of places, while it is looked from where an end can be reached.
use Rattle.std.specs.Prelude.{◌≡◌, ℕ, suc, ◌<◌, ◌≤◌, ◌↔◌, Bool, true, false, List, [], ◌∷◌, length}
use Rattle.std.specs.Prelude.{slice_get, Option, Some, None, Contains}
use Rattle.searches.specs.Found.{Found, edge_at}
use Rattle.searches.specs.Ending.{CanEnd}

abbrev pub IsMarked : List Bool → ℕ → Type 0
IsMarked marks place = slice_get marks place ≡ Some true

-- The ends are marked, and nothing else.
pub record AreMarkedEnds {S W : Type 0} (found : Found S W) (marks : List Bool) : Type 0 where
  pub paired : length marks ≡ length found.states
  pub exact : (place : ℕ) → IsMarked marks place ↔ Contains found.ends place

-- Each end is marked, and each place that is marked can end.
pub record AreMarks {S W : Type 0} (found : Found S W) (marks : List Bool) : Type 0 where
  pub paired : length marks ≡ length found.states
  pub ends : (place : ℕ) → Contains found.ends place → IsMarked marks place
  pub sound : (place : ℕ) → IsMarked marks place → CanEnd found place

-- An edge leads to a marked place.
abbrev pub IsMarkedAfter : List Bool → Option ℕ → Type 0
IsMarkedAfter marks None = ⊥
IsMarkedAfter marks (Some place) = IsMarked marks place

-- Some edge leads from the place to one that is marked.
abbrev pub LeadsToMarked : {S W : Type 0} → Found S W → List Bool → ℕ → Type 0
LeadsToMarked found marks place = (h : ℕ) × (h < found.harts) × IsMarkedAfter marks (edge_at found place h)

-- A place is left as it is only where it is marked, or no edge leads to one that is marked.
abbrev pub IsLeft : {S W : Type 0} → Found S W → List Bool → ℕ → Type 0
IsLeft found marks place = LeadsToMarked found marks place → IsMarked marks place

-- How many places aren't marked.
abbrev pub unmarked : List Bool → ℕ
unmarked [] = 0
unmarked (true ∷ marks) = unmarked marks
unmarked (false ∷ marks) = suc (unmarked marks)

-- One more place is marked than before, or all stay as they are and the places from here on are left.
abbrev pub MarksFrom : {S W : Type 0} → Found S W → ℕ → List Bool → List Bool → Bool → Type 0
MarksFrom found from old new true = unmarked new < unmarked old
MarksFrom found from old new false =
    (new ≡ old) × ((place : ℕ) → from ≤ place → IsLeft found new place)

-- The same of one place.
abbrev pub MarksAt : {S W : Type 0} → Found S W → ℕ → List Bool → List Bool → Bool → Type 0
MarksAt found place old new true = unmarked new < unmarked old
MarksAt found place old new false = (new ≡ old) × IsLeft found new place

abbrev pub IsFirstUnmarked : List Bool → Option ℕ → Type 0
IsFirstUnmarked marks None = (place : ℕ) → place < length marks → IsMarked marks place
IsFirstUnmarked marks (Some place) =
    (place < length marks) × (slice_get marks place ≡ Some false)
    × ((before : ℕ) → before < place → IsMarked marks before)
