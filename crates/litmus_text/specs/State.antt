-- The line of a final state. [herd's own form: Alglave, Maranget and Tautschnig 2014, "Herding Cats"]
use Rattle.std.specs.Prelude.{ℕ, ◌==◌, Bool, true, false, not, ◌-◌, if◌then◌else◌, List, [], ◌∷◌, ◌++◌, codes, length}
use Rattle.std.specs.Prelude.{Option, Some, None, position, slice_get}
use Rattle.std.specs.{Fmt.decimal}
use Rattle.smt_model.specs.{declared.config.Status.Status, declared.config.Status.TheVariants.Going}
use Rattle.smt_model.specs.{declared.config.Status.TheVariants.Ended}
use Rattle.smt_model.specs.{declared.config.Status.TheVariants.Stopped}
use Rattle.outcomes.specs.{Found.Told}
use Rattle.watched_outcomes.specs.{Endings.Ending}
use Rattle.text_fields.specs.Each.{each_from}
use Rattle.litmus_tests.specs.declared.{test.LitmusTest.LitmusTest, location.Location.Location, location.Element.Element}
use Rattle.litmus_tests.specs.Locations.{type_of}
use Rattle.litmus_tests.specs.declared.condition.Observed.{Observed}
use Rattle.litmus_tests.specs.declared.condition.Observed.TheVariants as observed_as
use Rattle.litmus_images.specs.Watching.{final_state}
use Rattle.litmus_text.specs.Value.{observed_text, number_text}

-- What is looked at, each with its number; one space between two.
abbrev pub space_of : ℕ → List ℕ
space_of index = if index == 0 then [] else codes " "

-- The element of an array that is shown as a whole, as `x={1,2};`: it stands behind the others of its array.
abbrev pub whole_element : Option Element → Option Element
whole_element None = None
whole_element (Some element) = if element.is_whole then Some element else None

abbrev pub element_of : Option Location → Option Element
element_of None = None
element_of (Some location) = whole_element location.element

abbrev pub element_in : LitmusTest → Observed → Option Element
element_in test (observed_as.Register hart register) = None
element_in test (observed_as.Location index) = element_of (slice_get test.locations.items index)

abbrev pub name_of : Option Location → List ℕ
name_of None = []
name_of (Some location) = location.name.items

abbrev pub array_name : LitmusTest → Observed → List ℕ
array_name test (observed_as.Register hart register) = []
array_name test (observed_as.Location index) = name_of (slice_get test.locations.items index)

-- What stands before its number, and what behind it.
abbrev pub opening_text : LitmusTest → ℕ → Observed → Option Element → List ℕ
opening_text test index observed None = space_of index ++ (observed_text test observed ++ codes "=")
opening_text test index observed (Some element) = if element.index == 0
    then space_of index ++ (array_name test observed ++ (61 ∷ 123 ∷ []))
    else codes ","

abbrev pub closing_text : Option Element → List ℕ
closing_text None = codes ";"
closing_text (Some element) = if element.count - element.index == 1 then 125 ∷ 59 ∷ [] else []

unfoldable pub equation_text : LitmusTest → ℕ → Observed → ℕ → List ℕ
equation_text test index observed number = opening_text test index observed (element_in test observed)
    ++ (number_text test (type_of test.locations.items observed) number ++ closing_text (element_in test observed))

abbrev pub part_text : LitmusTest → Ending → ℕ → Observed → List ℕ
part_text test ending index observed = equation_text test index observed (final_state test ending observed)

-- A hart that stopped otherwise than at its EBREAK, whose cause is 3.
abbrev pub is_told : Status → Bool
is_told Going = false
is_told (Ended number) = true
is_told (Stopped cause) = not (cause == 3)

-- The hart with which the line begins: where nothing is looked at, the first that is told of.
abbrev pub first_told : LitmusTest → List Status → Option ℕ
first_told test statuses = if length test.observed.items == 0 then position is_told statuses else None

-- One space stands between it and what is before it.
abbrev pub space_before : Option ℕ → ℕ → List ℕ
space_before None hart = codes " "
space_before (Some first) hart = if first == hart then [] else codes " "

abbrev pub stopped_text : Option ℕ → ℕ → List ℕ → ℕ → List ℕ
stopped_text first hart how number =
    space_before first hart ++ (codes "P" ++ (decimal hart ++ (how ++ (decimal number ++ codes ";"))))

abbrev pub stop_text : Option ℕ → ℕ → Status → List ℕ
stop_text first hart Going = []
stop_text first hart (Ended number) = stopped_text first hart (codes " ended ") number
stop_text first hart (Stopped cause) =
    if cause == 3 then [] else stopped_text first hart (codes " stopped ") cause

-- The whole line.
unfoldable pub state_line : LitmusTest → Ending → List ℕ
state_line test ending = each_from (part_text test ending) 0 test.observed.items
    ++ (each_from (stop_text (first_told test ending.statuses)) 0 ending.statuses ++ 10 ∷ [])

abbrev pub told_line : LitmusTest → Told → List ℕ
told_line test told = state_line test told.ending
