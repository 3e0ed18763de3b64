-- The places of a hart's kept maps, and what is kept in them.
use Rattle.std.specs.Prelude.{◌≡◌, ℕ, ◌==◌, Bool, nat_lt, length, List, [], ◌∷◌, Option, Some, None}
use Rattle.std.specs.Prelude.{if◌then◌else◌}
use Rattle.rename_map.specs.Maps.{Checkpoint}
use Rattle.rename_map.specs.declared.checkpoints.Place.{Place}

-- what is kept in a place, before the rest
abbrev pub kept_by : Option ℕ → List ℕ → List Checkpoint → List Checkpoint
kept_by None map rest = rest
kept_by (Some seq) map rest = record { seq = seq; map = map } ∷ rest

-- what is kept in some places
abbrev pub kept_in : List Place → List Checkpoint
kept_in [] = []
kept_in (x ∷ xs) = kept_by x.number x.map (kept_in xs)

-- the number of a place that is free from now on if its own passes the test
abbrev pub number_left : (ℕ → Bool) → Option ℕ → Option ℕ
number_left test None = None
number_left test (Some seq) = if test seq then None else Some seq

abbrev pub left : (ℕ → Bool) → Place → Place
left test x = record x { number = number_left test x.number }

-- a place without the map of this number, or without that of a greater one
abbrev pub place_released : ℕ → Place → Place
place_released seq x = left (λ s. s == seq) x

abbrev pub place_released_after : ℕ → Place → Place
place_released_after seq x = left (λ s. nat_lt seq s) x

-- there is a number for each of the 32 registers
abbrev pub IsWhole : Place → Type 0
IsWhole x = length x.map ≡ 32
