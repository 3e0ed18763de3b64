-- How the lists of a search are tied to each other.
use Rattle.std.specs.Prelude.{◌≡◌, ℕ, ◌+◌, ◌*◌, ◌^◌, ◌<◌, ◌≤◌, List, length, slice_get, Option, Some, Contains}
use Rattle.searches.specs.declared.origin.Origin.{Origin}

pub record IsTied {S W : Type 0} (harts : ℕ) (states : List S) (origins : List (Origin W)) (edges : List (Option ℕ))
    (ends : List ℕ) : Type 0 where
  pub few : length states ≤ 2 ^ 32
  pub paired : length origins + 1 ≡ length states
  pub before : (place : ℕ) (o : Origin W) → slice_get origins place ≡ Some o → o.parent ≤ place
  pub filled : length edges ≤ length states * harts
  pub inside : (at q : ℕ) → slice_get edges at ≡ Some (Some q) → q < length states
  pub ends_inside : (place : ℕ) → Contains ends place → place < length states
