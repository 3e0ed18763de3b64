-- The symbols of a table, and which of them are names of a program. [ELF32, "Symbol Table"]
use Rattle.std.specs.Prelude.{ℕ, ◌+◌, ◌*◌, ◌/◌, ◌%◌, ◌==◌, nat_le, nat_lt, ◌&&◌, ◌||◌, not, Bool, if◌then◌else◌}
use Rattle.std.specs.Prelude.{List, [], ◌∷◌, drop, flat_map, length, slice_index}
use Rattle.std.specs.List.{before_first}
use Rattle.elf_image.specs.Layout.{half_at, word_at}
use Rattle.smt_model.specs.Basics.{below}
use Rattle.symbols.specs.declared.symbol.Symbol.{Symbol}
use Rattle.symbols.specs.Sections.{section_bytes, section_link, section_offset, section_size}

-- The entry at a place of the file: st_name, st_value, st_size, st_info and st_shndx; and that place.
unfoldable pub symbol_at : List ℕ → ℕ → Symbol
symbol_at file place = record {
  name = word_at file place;
  address = word_at file (place + 4);
  size = word_at file (place + 8);
  info = slice_index file (place + 12);
  section = half_at file (place + 14);
  place = place;
}

-- Its name: the bytes of the names from its own place on, up to a 0.
abbrev pub name_of : List ℕ → Symbol → List ℕ
name_of names symbol = before_first (λ byte. byte == 0) (drop symbol.name names)

-- What it is of: the low four bits of st_info, 0 a label (STT_NOTYPE), 1 an object, 2 a function; others are no names of
-- a program. And whether all parts of the program know it: the high four bits are STB_GLOBAL, or STB_WEAK.
abbrev pub kind_of : Symbol → ℕ
kind_of symbol = symbol.info % 16

-- STT_FILE, 4, of an entry that names the file of which the local symbols behind it are.
abbrev pub is_file : Symbol → Bool
is_file symbol = kind_of symbol == 4

abbrev pub is_global : Symbol → Bool
is_global symbol = nat_le 1 (symbol.info / 16) && nat_le (symbol.info / 16) 2

-- It is a place in a section of the file: not undefined, and of none of the reserved numbers (SHN_LORESERVE and on).
abbrev pub is_placed : Symbol → Bool
is_placed symbol = nat_le 1 symbol.section && nat_lt symbol.section 0xff00

-- Nobody has written it: it has no name, or one of an assembler's own, `$x` (RISC-V ELF psABI, mapping symbols) or `.L0`.
abbrev pub is_nameless : List ℕ → Bool
is_nameless name = (length name == 0) || (slice_index name 0 == 36)
    || ((slice_index name 0 == 46) && (slice_index name 1 == 76))

-- It is a name of the program.
abbrev pub is_name : List ℕ → Symbol → Bool
is_name names symbol = nat_le (kind_of symbol) 2 && (is_placed symbol && not (is_nameless (name_of names symbol)))

-- The names of the first n entries of a table at a place.
abbrev pub names_among : List ℕ → List ℕ → ℕ → ℕ → List Symbol
names_among file names place n =
    flat_map (λ k. if is_name names (symbol_at file (place + 16 * k)) then symbol_at file (place + 16 * k) ∷ [] else [])
    (below n)

-- Those of the table in section n.
abbrev pub symbols_in : List ℕ → ℕ → List Symbol
symbols_in file n =
    names_among file (section_bytes file (section_link file n)) (section_offset file n) (section_size file n / 16)
