-- The checks that a file passes before it is loaded, and which refusal a file gets.
-- [ELF32 for the fields; the profile, its order and its bounds are this project's own choice]
use Rattle.std.specs.Prelude.{◌≡◌, ℕ, ◌+◌, ◌*◌, ◌%◌, ◌<◌, ◌≤◌, ◌⊎◌, Bool, ◌==◌, IsTrue, List}
use Rattle.std.specs.Prelude.{[], ◌∷◌, length, take, slice_index, All, AllPairs, count_by}
use Rattle.elf_image.specs.{declared.program_header.ProgramHeader.ProgramHeader}
use Rattle.elf_image.specs.{declared.refusal.LoadRefused.LoadRefused, Refusal.reason_number}
use Rattle.elf_image.specs.Image.{ram_start}
use Rattle.elf_image.specs.declared.refusal.LoadRefused.TheVariants.{TooShort, NotElf, NotClass32}
use Rattle.elf_image.specs.declared.refusal.LoadRefused.TheVariants.{NotLittleEndian, WrongVersion}
use Rattle.elf_image.specs.declared.refusal.LoadRefused.TheVariants.{NotExecutable, NotRiscV}
use Rattle.elf_image.specs.declared.refusal.LoadRefused.TheVariants.{WrongHeaderSize}
use Rattle.elf_image.specs.declared.refusal.LoadRefused.TheVariants.{TableOutsideFile}
use Rattle.elf_image.specs.declared.refusal.LoadRefused.TheVariants.{WrongSegmentCount}
use Rattle.elf_image.specs.declared.refusal.LoadRefused.TheVariants.{SegmentOutsideFile}
use Rattle.elf_image.specs.declared.refusal.LoadRefused.TheVariants.{WrongMemorySize}
use Rattle.elf_image.specs.declared.refusal.LoadRefused.TheVariants.{SegmentOutsideRam}
use Rattle.elf_image.specs.declared.refusal.LoadRefused.TheVariants.{SegmentsOverlap}
use Rattle.elf_image.specs.declared.refusal.LoadRefused.TheVariants.{WrongCodeSegment}
use Rattle.elf_image.specs.declared.refusal.LoadRefused.TheVariants.{MisalignedCode, WrongEntry}
use Rattle.elf_image.specs.declared.refusal.LoadRefused.TheVariants.{OutOfMemory}
use Rattle.elf_image.specs.Layout.{half_at, word_at, entry_of, table_offset, table_count, loadable}

-- The segment's flags have X, the lowest bit.
abbrev pub is_executable : ProgramHeader → Bool
is_executable header = header.flags % 2 == 1

-- No address is in both segments.
abbrev pub AreApart : ProgramHeader → ProgramHeader → Type 0
AreApart g h = (g.address + g.memory_size ≤ h.address) ⊎ (h.address + h.memory_size ≤ g.address)

-- What each check asks of a file, for a RAM of so many bytes.
abbrev pub Passes : List ℕ → ℕ → LoadRefused → Type 0
Passes file ram TooShort = 52 ≤ length file
Passes file ram NotElf = take 4 file ≡ 0x7f ∷ 0x45 ∷ 0x4c ∷ 0x46 ∷ []
Passes file ram NotClass32 = slice_index file 4 ≡ 1
Passes file ram NotLittleEndian = slice_index file 5 ≡ 1
Passes file ram WrongVersion = (slice_index file 6 ≡ 1) × (word_at file 20 ≡ 1)
Passes file ram NotExecutable = half_at file 16 ≡ 2
Passes file ram NotRiscV = half_at file 18 ≡ 243
Passes file ram WrongHeaderSize = (half_at file 40 ≡ 52) × (half_at file 42 ≡ 32)
Passes file ram TableOutsideFile = table_offset file + 32 * table_count file ≤ length file
Passes file ram WrongSegmentCount = (0 < length (loadable file)) × (length (loadable file) ≤ 8)
Passes file ram SegmentOutsideFile = All (λ h. h.offset + h.file_size ≤ length file) (loadable file)
Passes file ram WrongMemorySize =
    All (λ h. (0 < h.memory_size) × (h.file_size ≤ h.memory_size)) (loadable file)
Passes file ram SegmentOutsideRam =
    All (λ h. (ram_start ≤ h.address) × (h.address + h.memory_size ≤ ram_start + ram))
    (loadable file)
Passes file ram SegmentsOverlap = AllPairs AreApart (loadable file)
Passes file ram WrongCodeSegment = count_by is_executable (loadable file) ≡ 1
Passes file ram MisalignedCode =
    All (λ h. IsTrue (is_executable h) → (h.address % 4 ≡ 0) × (h.memory_size % 4 ≡ 0))
    (loadable file)
Passes file ram WrongEntry = (entry_of file % 4 ≡ 0)
    × All (λ h. IsTrue (is_executable h)
    → (h.address ≤ entry_of file) × (entry_of file < h.address + h.memory_size)) (loadable file)
Passes file ram OutOfMemory = Unit {0}

-- The refusal is the first check that the file fails, or want of memory where it passes all of
-- them.
pub record IsLoadRefusal (file : List ℕ) (ram : ℕ) (reason : LoadRefused) : Type 0 where
  pub fails : reason_number reason < 18 → Passes file ram reason → ⊥
  pub before : (earlier : LoadRefused) → reason_number earlier < reason_number reason
      → Passes file ram earlier
