-- From which places an end can be reached.
use Rattle.std.specs.Prelude.{ℕ, ◌<◌, List, length, Option, Some, None, Contains}
use Rattle.searches.specs.Found.{Found, Follows}

-- Some way along the edges leads from the place to an end.
abbrev pub CanEnd : {S W : Type 0} → Found S W → ℕ → Type 0
CanEnd found place = (way : List ℕ) × (last : ℕ) × Follows found place way last × Contains found.ends last

-- The least place from which no way leads to an end, or none, where from each place some way does.
abbrev pub IsLeastStuck : {S W : Type 0} → Found S W → Option ℕ → Type 0
IsLeastStuck found None = (place : ℕ) → place < length found.states → CanEnd found place
IsLeastStuck found (Some place) =
    (place < length found.states) × (¬ CanEnd found place) × ((before : ℕ) → before < place → CanEnd found before)
