-- Where the fields of an ELF32 file lie, in little-endian order. [ELF32, "ELF Header" and "Program
-- Header"]
use Rattle.std.specs.Prelude.{ℕ, zero, suc, ◌+◌, Bool, ◌==◌, List, [], ◌∷◌, drop, filter}
use Rattle.byteorder.specs.Endian.{little_number}
use Rattle.elf_image.specs.declared.program_header.ProgramHeader.{ProgramHeader}

-- A field of two bytes, and one of four.
unfoldable pub half_at : List ℕ → ℕ → ℕ
half_at file place = little_number 2 (drop place file)

unfoldable pub word_at : List ℕ → ℕ → ℕ
word_at file place = little_number 4 (drop place file)

-- e_entry, e_phoff and e_phnum: the first instruction, and where the table of program headers lies
-- and how many it has.
abbrev pub entry_of : List ℕ → ℕ
entry_of file = word_at file 24

abbrev pub table_offset : List ℕ → ℕ
table_offset file = word_at file 28

abbrev pub table_count : List ℕ → ℕ
table_count file = half_at file 44

-- The fields of the program header at a place, without p_paddr and p_align, which nothing here
-- reads.
unfoldable pub header_at : List ℕ → ℕ → ProgramHeader
header_at file place = record {
  kind = word_at file place;
  offset = word_at file (place + 4);
  address = word_at file (place + 8);
  file_size = word_at file (place + 16);
  memory_size = word_at file (place + 20);
  flags = word_at file (place + 24);
}

-- The program headers from a place on, 32 bytes each.
unfoldable pub headers_from : List ℕ → ℕ → ℕ → List ProgramHeader
headers_from file place zero = []
headers_from file place (suc n) = header_at file place ∷ headers_from file (place + 32) n

-- The header is that of a loadable segment: its type is PT_LOAD.
abbrev pub is_loadable : ProgramHeader → Bool
is_loadable header = header.kind == 1

-- The headers of the loadable segments among these, in the file's order.
unfoldable pub loadable_from : List ℕ → ℕ → ℕ → List ProgramHeader
loadable_from file place n = filter is_loadable (headers_from file place n)

-- The headers of the file's loadable segments.
abbrev pub loadable : List ℕ → List ProgramHeader
loadable file = loadable_from file (table_offset file) (table_count file)
