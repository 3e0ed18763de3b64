-- The text of an image that is accepted. (This project's own choice.)
use Rattle.std.specs.Prelude.{◌≡◌, ◌⊎◌, ℕ, ◌+◌, ◌-◌, ◌/◌, ◌%◌, ◌^◌, ◌≤◌, ◌==◌, if◌then◌else◌, false, List, [], ◌∷◌, ◌++◌, codes}
use Rattle.std.specs.Prelude.{length, count_by, All, Contains}
use Rattle.std.specs.{Fmt.decimal, Fmt.digits, Fmt.padded_integral, Fmt.format_spec}
use Rattle.std.specs.Option.{option_map_or}
use Rattle.shown_text.specs.Shown.{shown}
use Rattle.text_fields.specs.Each.{each_from}
use Rattle.elf_image.specs.Image.{ProgramImage, ProgramSegment, ram_start}
use Rattle.elf_image.specs.{declared.program_header.ProgramHeader.ProgramHeader, Layout.loadable}
use Rattle.symbols.specs.declared.symbol.Symbol.{Symbol}
use Rattle.symbols.specs.{Symbols.kind_of, Symbols.name_of, Naming.symbol_for}
use Rattle.symbols.specs.{Sections.HasSections, Sections.HasNoSymbolSection, Sections.IsSymbolSection, Sections.IsWhole}
use Rattle.symbols.specs.{Tables.Table, Tables.IsTableOf}

-- An address: eight hexadecimal digits, or as many as it has, as the standard library writes `{:08x}`.
abbrev pub address_text : ℕ → List ℕ
address_text address = padded_integral (format_spec 32 0 4 8 (2 ^ 64 - 1)) false [] (digits 16 false address)

-- From where to where RAM is, behind a word.
unfoldable pub range_line : List ℕ → ℕ → ℕ → List ℕ
range_line word last bytes = word ++ 32 ∷ (address_text ram_start ++ (codes " to " ++ (address_text last
    ++ (codes ", " ++ (decimal bytes ++ codes " bytes\n")))))

abbrev pub ram_line : List ℕ → ℕ → List ℕ
ram_line word ram = range_line word (ram_start + (ram - 1)) ram

-- A segment: its number among the loadable ones, where it begins and, of one with bytes in memory, where it ends; how
-- many bytes it has in the file and in memory; and its flags.
unfoldable pub start_text : ℕ → ProgramHeader → List ℕ
start_text number header = codes "segment " ++ (decimal number ++ (codes " at " ++ address_text header.address))

unfoldable pub end_text : ProgramHeader → List ℕ
end_text header = if header.memory_size == 0 then []
    else codes " to " ++ address_text (header.address + (header.memory_size - 1))

unfoldable pub held_text : ProgramHeader → List ℕ
held_text header = codes ", " ++ (decimal header.file_size ++ (codes " bytes in the file, "
    ++ (decimal header.memory_size ++ codes " in memory,")))

abbrev pub flag_text : ℕ → ℕ → List ℕ → List ℕ
flag_text flags bit letter = if flags / bit % 2 == 1 then letter else []

unfoldable pub flags_text : ℕ → List ℕ
flags_text flags = flag_text flags 4 (codes " R") ++ (flag_text flags 2 (codes " W")
    ++ (flag_text flags 1 (codes " X") ++ 10 ∷ []))

abbrev pub segment_line : ℕ → ProgramHeader → List ℕ
segment_line number header =
    start_text number header ++ (end_text header ++ (held_text header ++ flags_text header.flags))

abbrev pub segment_lines : List ProgramHeader → List ℕ
segment_lines headers = each_from segment_line 0 headers

-- Where a hart begins, and how many bytes of RAM are behind the last segment.
unfoldable pub entry_line : ℕ → List ℕ
entry_line entry = codes "entry " ++ (address_text entry ++ 10 ∷ [])

unfoldable pub free_line : ℕ → List ℕ
free_line free = codes "free behind the last segment " ++ (decimal free ++ 10 ∷ [])

pub record IsFree (image : ProgramImage) (free : ℕ) : Type 0 where
  pub behind : All (λ s. s.address + length s.bytes + free ≤ ram_start + image.ram) image.segments
  pub adjoins : (last : ProgramSegment) × Contains image.segments last
      × (last.address + length last.bytes + free ≡ ram_start + image.ram)

-- All that is said of it but for its names.
unfoldable pub image_text : List ProgramHeader → ProgramImage → ℕ → List ℕ
image_text headers image free = ram_line (codes "ram") image.ram ++ (segment_lines headers
    ++ (entry_line image.entry ++ free_line free))

-- How many names its program has of functions, of objects, and labels beside them.
abbrev pub count_of : ℕ → List Symbol → ℕ
count_of kind symbols = count_by (λ s. kind_of s == kind) symbols

unfoldable pub counts_line : ℕ → ℕ → ℕ → List ℕ
counts_line functions objects labels = codes "names of functions " ++ (decimal functions
    ++ (codes ", of objects " ++ (decimal objects ++ (codes ", labels " ++ (decimal labels ++ 10 ∷ [])))))

abbrev pub names_line : List Symbol → List ℕ
names_line symbols = counts_line (count_of 2 symbols) (count_of 1 symbols) (count_of 0 symbols)

-- In what an address is, and how many bytes behind its start.
abbrev pub behind_text : ℕ → List ℕ
behind_text behind = if behind == 0 then [] else 43 ∷ decimal behind

unfoldable pub entry_lead : List ℕ
entry_lead = codes "the entry is `"

unfoldable pub entry_in : List ℕ → ℕ → List ℕ
entry_in name behind = entry_lead ++ (shown name ++ (behind_text behind ++ codes "`\n"))

abbrev pub entry_name : Table → ℕ → List ℕ
entry_name table entry = option_map_or
    (λ symbol. entry_in (name_of table.names symbol) (entry - symbol.address)) (symbol_for table.symbols entry) []

-- The names that are told of a file: those of its table of symbols; none, where it has no such table; or that this one
-- is damaged, where it isn't whole.
unfoldable pub damaged_line : List ℕ
damaged_line = codes "names none: the table of symbols is damaged\n"

pub record AreTold (file : List ℕ) (entry : ℕ) (names : List ℕ) : Type 0 where
  pub table : Table
  pub is_table : IsTableOf file table
  pub whole : names ≡ names_line table.symbols ++ entry_name table entry

pub record AreAbsent (file names : List ℕ) : Type 0 where
  pub sections : HasSections file
  pub none : HasNoSymbolSection file
  pub nothing : names ≡ []

pub record AreDamaged (file names : List ℕ) : Type 0 where
  pub damaged : HasSections file → (n : ℕ) × IsSymbolSection file n × (IsWhole file n → ⊥)
  pub line : names ≡ damaged_line

abbrev pub AreNamesText : List ℕ → ℕ → List ℕ → Type 0
AreNamesText file entry names = AreTold file entry names ⊎ (AreAbsent file names ⊎ AreDamaged file names)

-- All that is said of a file that is the file of this image, with so many bytes free behind its last segment.
pub record IsImageTextBehind (file : List ℕ) (headers : List ProgramHeader) (image : ProgramImage) (free : ℕ)
    (text : List ℕ) : Type 0 where
  pub names : List ℕ
  pub are_names : AreNamesText file image.entry names
  pub whole : text ≡ image_text headers image free ++ names

pub record IsImageText (file : List ℕ) (image : ProgramImage) (text : List ℕ) : Type 0 where
  pub free : ℕ
  pub is_free : IsFree image free
  pub behind : List ℕ
  pub is_behind : IsImageTextBehind file (loadable file) image free behind
  pub whole : text ≡ codes "image accepted\n" ++ behind
