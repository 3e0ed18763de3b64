-- The file that an image is written as. [ELF32, "ELF Header" and "Program Header"]
use Rattle.std.specs.Prelude.{ℕ, ◌+◌, ◌*◌, List, [], ◌∷◌, ◌++◌, length, replicate, flat_map}
use Rattle.byteorder.specs.Endian.{little_bytes}
use Rattle.elf_image.specs.Image.{ProgramSegment, ProgramImage}

-- A field of two bytes, and one of four, the lowest byte first.
unfoldable pub half_bytes : ℕ → List ℕ
half_bytes n = little_bytes 2 n

unfoldable pub word_bytes : ℕ → List ℕ
word_bytes n = little_bytes 4 n

-- The file header, 52 bytes: after the identification its fields are e_type and e_machine;
-- e_version, e_entry, e_phoff, e_shoff and e_flags; e_ehsize, e_phentsize, e_phnum, e_shentsize,
-- e_shnum and e_shstrndx.
unfoldable pub file_header : ℕ → ℕ → List ℕ
file_header entry count =
    (0x7f ∷ 0x45 ∷ 0x4c ∷ 0x46 ∷ 1 ∷ 1 ∷ 1 ∷ replicate 9 0)
    ++ flat_map half_bytes (2 ∷ 243 ∷ [])
    ++ flat_map word_bytes (1 ∷ entry ∷ 52 ∷ 0 ∷ 0 ∷ [])
    ++ flat_map half_bytes (52 ∷ 32 ∷ count ∷ 0 ∷ 0 ∷ 0 ∷ [])

-- The program header of a segment whose bytes lie at an offset, 32 bytes: p_type, p_offset,
-- p_vaddr, p_paddr, p_filesz, p_memsz, p_flags and p_align.
unfoldable pub program_header : ProgramSegment → ℕ → List ℕ
program_header s offset =
    flat_map word_bytes
    (1 ∷ offset ∷ s.address ∷ s.address ∷ length s.bytes ∷ length s.bytes ∷ s.flags ∷ 1 ∷ [])

-- Those of segments whose bytes lie one after the other from an offset on.
unfoldable pub program_headers : List ProgramSegment → ℕ → List ℕ
program_headers [] offset = []
program_headers (s ∷ segments) offset =
    program_header s offset ++ program_headers segments (offset + length s.bytes)

-- The file of an image: the file header, the program headers from byte 52 on, and the bytes of the
-- segments.
unfoldable pub file_of : ProgramImage → List ℕ
file_of image =
    file_header image.entry (length image.segments)
    ++ program_headers image.segments (52 + 32 * length image.segments)
    ++ flat_map (λ s. s.bytes) image.segments
