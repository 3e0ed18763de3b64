-- A ring of places: those in flight stand from one place on, and round the end.
use Rattle.std.specs.Prelude.{◌≡◌, ℕ, ◌+◌, ◌-◌, ◌%◌, ◌<◌, List, ◌++◌, take, drop, slice_index_or}
use Rattle.numbers.specs.Sizes.{most_in_flight}
use Rattle.retire_squash.specs.declared.active.Active.{Active}

-- the places, read from `first` on and round the end
abbrev pub turned : ℕ → List Active → List Active
turned first places = drop first places ++ take first places

-- the `count` places from `first` on
abbrev pub in_ring : ℕ → ℕ → List Active → List Active
in_ring first count places = take count (turned first places)

-- the place so many steps behind `first`, and how many steps a place is behind it
abbrev pub place_from : ℕ → ℕ → ℕ
place_from first steps = (first + steps) % most_in_flight

abbrev pub steps_to : ℕ → ℕ → ℕ
steps_to first place = (place + most_in_flight - first) % most_in_flight

-- The instruction at a place is one of the `count` from `first` on, and has this number.
pub record IsAt (first count : ℕ) (places : List Active) (seq place : ℕ) : Type 0 where
  pub inside : place < most_in_flight
  pub in_flight : steps_to first place < count
  pub number : (d : Active) → (slice_index_or places place d).seq ≡ seq
