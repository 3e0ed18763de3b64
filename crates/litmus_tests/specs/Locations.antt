-- What is looked at in memory, and where it stands.
use Rattle.std.specs.Prelude.{ℕ, ◌==◌, Bool, true, List, Option, Some, None, slice_get, position, option_and_then}
use Rattle.watched_outcomes.specs.declared.watch.Width.TheVariants.{Word}
use Rattle.litmus_tests.specs.declared.{location.Location.Location, number_type.NumberType.NumberType}
use Rattle.litmus_tests.specs.declared.condition.Observed.{Observed}
use Rattle.litmus_tests.specs.declared.condition.Observed.TheVariants as observed

-- What number something is that is looked at: registers are words, with a sign (herd's `int`).
abbrev pub int : NumberType
int = record { width = Word; is_signed = true }

abbrev pub type_in : Option Location → NumberType
type_in None = int
type_in (Some location) = location.number_type

abbrev pub type_of : List Location → Observed → NumberType
type_of locations (observed.Register hart register) = int
type_of locations (observed.Location index) = type_in (slice_get locations index)

-- The location that begins at a byte, or the element that does.
abbrev pub begins_at : ℕ → Location → Bool
begins_at byte location = location.byte == byte

abbrev pub beginning_at : List Location → ℕ → Option Location
beginning_at locations byte =
    option_and_then (λ index. slice_get locations index) (position (begins_at byte) locations)
