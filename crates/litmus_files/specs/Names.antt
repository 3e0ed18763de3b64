-- The names of a file, and the table of symbols that go by them. [ELF32, "String Table" and "Symbol Table"]
use Rattle.std.specs.Prelude.{ℕ, ◌+◌, ◌*◌, ◌==◌, Bool, true, if◌then◌else◌, List, [], ◌∷◌, ◌++◌, Option, Some, None}
use Rattle.std.specs.Prelude.{length, flat_map, replicate, codes}
use Rattle.elf_image.specs.{Image.ram_start, Written.word_bytes}
use Rattle.watched_outcomes.specs.Watching.{bytes_of}
use Rattle.litmus_tests.specs.declared.location.{Location.Location, Element.Element}

-- A location has a symbol, and so has an array, by its first element; how many numbers go by it.
abbrev pub has_symbol : Option Element → Bool
has_symbol None = true
has_symbol (Some element) = element.index == 0

abbrev pub count_of : Option Element → ℕ
count_of None = 1
count_of (Some element) = element.count

abbrev pub size_of : Location → ℕ
size_of location = bytes_of location.number_type.width * count_of location.element

-- The name of what has a symbol; a name ends in a 0.
abbrev pub name_of : Location → List ℕ
name_of location = if has_symbol location.element then location.name.items ++ 0 ∷ [] else []

-- The names of the sections, the first of which has none: they begin at 1, 12 and 20.
unfoldable pub section_names : List ℕ
section_names = codes "\0.locations\0.symtab\0.strtab\0"

abbrev pub names_begin : ℕ
names_begin = 28

-- Behind them those of the locations and the arrays.
abbrev pub strings : List Location → List ℕ
strings locations = section_names ++ flat_map name_of locations

-- The entry of an object of so many bytes at an address, whose name begins at a place among these: st_name, st_value,
-- st_size, and in one word st_info (an object, STT_OBJECT, that all parts of the program know, STB_GLOBAL), st_other and
-- st_shndx (section 1).
unfoldable pub entry : ℕ → ℕ → ℕ → List ℕ
entry begin address size = flat_map word_bytes (begin ∷ address ∷ size ∷ 0x00010011 ∷ [])

abbrev pub entry_of : Location → ℕ → List ℕ
entry_of location begin =
    if has_symbol location.element then entry begin (ram_start + location.byte) (size_of location) else []

-- Those of locations whose names stand one behind the other.
unfoldable pub entries : List Location → ℕ → List ℕ
entries [] begin = []
entries (location ∷ locations) begin =
    entry_of location begin ++ entries locations (begin + length (name_of location))

-- The table: its first entry is empty.
abbrev pub symbol_table : List Location → List ℕ
symbol_table locations = replicate 16 0 ++ entries locations names_begin
