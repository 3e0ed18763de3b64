-- What tells the final states of a litmus test apart, and what an end of its image is as a final state.
use Rattle.std.specs.Prelude.{ℕ, ◌+◌, ◌%◌, ◌^◌, ◌==◌, ◌&&◌, List, map, position, slice_get, Option, Some, None, unwrap_or}
use Rattle.std.specs.{Prelude.option_and_then, List.filter_map}
use Rattle.watched_outcomes.specs.{Endings.Ending, declared.watch.WatchedRegister.WatchedRegister}
use Rattle.watched_outcomes.specs.declared.watch.{WatchedBytes.WatchedBytes, Width.TheVariants.Word}
use Rattle.litmus_tests.specs.declared.condition.Observed.{Observed}
use Rattle.litmus_tests.specs.declared.condition.Observed.TheVariants as observed_as
use Rattle.litmus_tests.specs.declared.test.LitmusTest.{LitmusTest}
use Rattle.litmus_tests.specs.{Conditions.FinalState, declared.location.Location.Location}
use Rattle.elf_image.specs.Image.{ram_start}

-- The register that is looked at, where it is one; and the location.
abbrev pub register_of : Observed → Option WatchedRegister
register_of (observed_as.Register hart register) = Some (record { hart = hart; register = register })
register_of (observed_as.Location index) = None

abbrev pub location_of : Observed → Option ℕ
location_of (observed_as.Register hart register) = None
location_of (observed_as.Location index) = Some index

-- All registers that are looked at, in order, and all locations.
abbrev pub registers_observed : List Observed → List WatchedRegister
registers_observed observed = filter_map register_of observed

abbrev pub locations_observed : List Observed → List ℕ
locations_observed observed = filter_map location_of observed

-- The bytes of these locations, each as wide as its type says. (Where a location is there, its address is a word; what
-- isn't there counts as the first word.)
abbrev pub bytes_watched : Location → WatchedBytes
bytes_watched location = record {
  address = (ram_start + location.byte) % 2 ^ 32;
  width = location.number_type.width;
}

abbrev pub cell_in : Option Location → WatchedBytes
cell_in None = record { address = ram_start; width = Word }
cell_in (Some location) = bytes_watched location

abbrev pub cell_of : List Location → ℕ → WatchedBytes
cell_of locations index = cell_in (slice_get locations index)

abbrev pub words_observed : List Location → List Observed → List WatchedBytes
words_observed locations observed = map (cell_of locations) (locations_observed observed)

-- The number at a place, where there is one, else 0.
abbrev pub number_at_place : List ℕ → Option ℕ → ℕ
number_at_place numbers place = unwrap_or (option_and_then (λ i. slice_get numbers i) place) 0

-- The final state that an end is in which those registers and bytes were watched: each has the number at its place.
unfoldable pub final_state : LitmusTest → Ending → FinalState
final_state test ending (observed_as.Register hart register) = number_at_place ending.registers
    (position (λ w. w.hart == hart && w.register == register) (registers_observed test.observed.items))
final_state test ending (observed_as.Location index) = number_at_place ending.words
    (position (λ l. l == index) (locations_observed test.observed.items))
