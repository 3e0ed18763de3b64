-- Where a file's table of symbols lies. [ELF32, "Sections" and "String Table"]
use Rattle.std.specs.Prelude.{◌≡◌, ℕ, ◌+◌, ◌-◌, ◌*◌, ◌%◌, ◌<◌, ◌≤◌, List, length, take, drop, slice_index, ◌⊎◌}
use Rattle.elf_image.specs.Layout.{half_at, word_at}
use Rattle.symbols.specs.declared.sections.Section.{Section}

-- e_shoff and e_shnum: where the headers of the sections lie, and how many there are, 40 bytes each.
abbrev pub section_table : List ℕ → ℕ
section_table file = word_at file 32

abbrev pub section_count : List ℕ → ℕ
section_count file = half_at file 48

abbrev pub section_place : List ℕ → ℕ → ℕ
section_place file n = section_table file + 40 * n

-- Of section n: sh_type; where its bytes lie in the file, sh_offset and sh_size; and which section it goes by, sh_link.
abbrev pub section_type : List ℕ → ℕ → ℕ
section_type file n = word_at file (section_place file n + 4)

abbrev pub section_offset : List ℕ → ℕ → ℕ
section_offset file n = word_at file (section_place file n + 16)

abbrev pub section_size : List ℕ → ℕ → ℕ
section_size file n = word_at file (section_place file n + 20)

abbrev pub section_link : List ℕ → ℕ → ℕ
section_link file n = word_at file (section_place file n + 24)

-- What is said of section n.
pub record IsSection (file : List ℕ) (n : ℕ) (section : Section) : Type 0 where
  pub kind : section.kind ≡ section_type file n
  pub offset : section.offset ≡ section_offset file n
  pub size : section.size ≡ section_size file n
  pub link : section.link ≡ section_link file n

-- The headers of all sections lie in the file, and have the size that they should, where there are some.
pub record HasSections (file : List ℕ) : Type 0 where
  pub header : 52 ≤ length file
  pub size : (section_count file ≡ 0) ⊎ (half_at file 46 ≡ 40)
  pub inside : section_table file + 40 * section_count file ≤ length file

-- The section is the first whose type is that of a table of symbols, SHT_SYMTAB.
pub record IsSymbolSection (file : List ℕ) (n : ℕ) : Type 0 where
  pub inside : n < section_count file
  pub kind : section_type file n ≡ 2
  pub first : (m : ℕ) → m < n → section_type file m ≡ 2 → ⊥

abbrev pub HasNoSymbolSection : List ℕ → Type 0
HasNoSymbolSection file = (m : ℕ) → m < section_count file → section_type file m ≡ 2 → ⊥

-- The bytes of section n.
abbrev pub section_bytes : List ℕ → ℕ → List ℕ
section_bytes file n = take (section_size file n) (drop (section_offset file n) file)

-- The section's bytes lie in the file.
abbrev pub IsInFile : List ℕ → ℕ → Type 0
IsInFile file n = section_offset file n + section_size file n ≤ length file

-- The table of symbols in section n is whole: so are its entries, 16 bytes each, and the names that it goes by, which
-- end in a 0.
pub record IsWhole (file : List ℕ) (n : ℕ) : Type 0 where
  pub entries : IsInFile file n
  pub even : section_size file n % 16 ≡ 0
  pub link : section_link file n < section_count file
  pub strings : section_type file (section_link file n) ≡ 3
  pub names : IsInFile file (section_link file n)
  pub some : 0 < section_size file (section_link file n)
  pub ends : slice_index file (section_offset file (section_link file n) + section_size file (section_link file n) - 1) ≡ 0
