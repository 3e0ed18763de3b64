-- How numbers are written, and what is looked at. [herd's own notation: Alglave, Maranget and Tautschnig 2014,
-- "Herding Cats"; of arrays herd7's]
use Rattle.std.specs.Prelude.{ℕ, ◌+◌, ◌-◌, ◌*◌, ◌/◌, ◌^◌, ◌==◌, nat_lt, Bool, true, false, if◌then◌else◌}
use Rattle.std.specs.Prelude.{List, [], ◌∷◌, ◌++◌, codes, Option, Some, None, slice_get}
use Rattle.std.specs.{Fmt.decimal}
use Rattle.elf_image.specs.Image.{ram_start}
use Rattle.watched_outcomes.specs.declared.watch.Width.{Width}
use Rattle.watched_outcomes.specs.declared.watch.Width.TheVariants.{Byte, Half, Word}
use Rattle.litmus_tests.specs.declared.{test.LitmusTest.LitmusTest, location.Location.Location, location.Element.Element}
use Rattle.litmus_tests.specs.{declared.number_type.NumberType.NumberType, Locations.beginning_at}
use Rattle.litmus_tests.specs.declared.value.Value.{Value}
use Rattle.litmus_tests.specs.declared.value.Value.TheVariants.{Number, Address}
use Rattle.litmus_tests.specs.declared.condition.Observed.{Observed}
use Rattle.litmus_tests.specs.declared.condition.Observed.TheVariants as observed

-- A number with a sign, in two's complement, of as many bits as it has.
abbrev pub signed_below : ℕ → ℕ → List ℕ
signed_below below number = if nat_lt number (below / 2) then decimal number else 45 ∷ decimal (below - number)

abbrev pub signed_of : Width → ℕ → List ℕ
signed_of Byte number = signed_below (2 ^ 8) number
signed_of Half number = signed_below (2 ^ 16) number
signed_of Word number = signed_below (2 ^ 32) number

abbrev pub signed_text : ℕ → List ℕ
signed_text number = signed_of Word number

-- A number as its type says.
abbrev pub typed_text : NumberType → ℕ → List ℕ
typed_text kind number = if kind.is_signed then signed_of kind.width number else decimal number

-- An address is the name of the location or the array in which it is, and behind that how many bytes it stands behind
-- its begin, if any. A location or an element begins each word.
abbrev pub location_at : LitmusTest → ℕ → Option Location
location_at test byte = beginning_at test.locations.items (4 * (byte / 4))

abbrev pub offset_text : ℕ → List ℕ
offset_text offset = if offset == 0 then [] else codes "+" ++ decimal offset

abbrev pub place_or : Option Location → ℕ → List ℕ → List ℕ
place_or None byte text = text
place_or (Some location) byte text = location.name.items ++ offset_text (byte - location.begin)

abbrev pub address_text : LitmusTest → ℕ → List ℕ
address_text test byte = place_or (location_at test byte) byte []

-- A number that a final state has: an address, else as its type says.
abbrev pub location_by : LitmusTest → ℕ → Option Location
location_by test number = if nat_lt number ram_start then None else location_at test (number - ram_start)

abbrev pub number_text : LitmusTest → NumberType → ℕ → List ℕ
number_text test kind number = place_or (location_by test number) (number - ram_start) (typed_text kind number)

-- A value as a condition has it.
abbrev pub value_text : LitmusTest → Value → List ℕ
value_text test (Number number) = signed_text number
value_text test (Address byte) = address_text test byte

-- What is looked at: `0:x7`, `[x]`, or `x[1]`.
abbrev pub register_text : ℕ → ℕ → List ℕ
register_text hart register = decimal hart ++ (codes ":x" ++ decimal register)

abbrev pub indexed_text : Location → Option Element → List ℕ
indexed_text location None = codes "[" ++ (location.name.items ++ codes "]")
indexed_text location (Some element) = location.name.items ++ (codes "[" ++ (decimal element.index ++ codes "]"))

abbrev pub located_text : Option Location → List ℕ
located_text None = []
located_text (Some location) = indexed_text location location.element

abbrev pub observed_text : LitmusTest → Observed → List ℕ
observed_text test (observed.Register hart register) = register_text hart register
observed_text test (observed.Location index) = located_text (slice_get test.locations.items index)
