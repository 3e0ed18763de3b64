-- The file of a litmus test's image. [ELF32, "ELF Header" and "Sections"]
use Rattle.std.specs.Prelude.{ℕ, ◌+◌, ◌*◌, List, [], ◌∷◌, ◌++◌, length, take, drop, flat_map, replicate}
use Rattle.elf_image.specs.{Image.ProgramImage, Image.ram_start, Written.word_bytes, Written.file_of}
use Rattle.litmus_tests.specs.declared.{location.Location.Location, test.LitmusTest.LitmusTest}
use Rattle.litmus_files.specs.Names.{strings, symbol_table}

-- The file of an image, whose header says of sections: e_shoff, at 32, that their headers begin behind it; e_shentsize,
-- e_shnum and e_shstrndx, from 46 on, that they are four of 40 bytes, and that the last has their names.
unfoldable pub begun : List ℕ → List ℕ
begun image = take 32 image ++ flat_map word_bytes (length image ∷ [])

unfoldable pub numbered : List ℕ → List ℕ
numbered image = take 10 (drop 36 image) ++ (40 ∷ 0 ∷ 4 ∷ 0 ∷ 3 ∷ 0 ∷ [])

unfoldable pub spoken_for : List ℕ → List ℕ
spoken_for image = begun image ++ (numbered image ++ drop 52 image)

-- The header of a section: sh_name, sh_type, sh_flags, sh_addr, sh_offset, sh_size, sh_link, sh_info, sh_addralign and
-- sh_entsize. Of so many words of locations (SHT_PROGBITS; SHF_WRITE and SHF_ALLOC), which lie behind the header of the
-- file and those of two segments.
unfoldable pub located : ℕ → List ℕ
located words = flat_map word_bytes (1 ∷ 1 ∷ 3 ∷ ram_start ∷ 116 ∷ 4 * words ∷ 0 ∷ 0 ∷ 4 ∷ 0 ∷ [])

-- Of the table of symbols (SHT_SYMTAB), which goes by the names of section 3, and of those names (SHT_STRTAB).
unfoldable pub symbols_located : ℕ → ℕ → List ℕ
symbols_located begin size = flat_map word_bytes (12 ∷ 2 ∷ 0 ∷ 0 ∷ begin ∷ size ∷ 3 ∷ 1 ∷ 4 ∷ 16 ∷ [])

unfoldable pub strings_located : ℕ → ℕ → List ℕ
strings_located begin size = flat_map word_bytes (20 ∷ 3 ∷ 0 ∷ 0 ∷ begin ∷ size ∷ 0 ∷ 0 ∷ 1 ∷ 0 ∷ [])

-- Those of all four sections, the first of which is empty, behind the file of an image of this length.
unfoldable pub section_headers : ℕ → ℕ → ℕ → ℕ → List ℕ
section_headers image words symbols strings = replicate 40 0 ++ (located words
    ++ (symbols_located (image + 4 * 40) symbols ++ strings_located (image + 4 * 40 + symbols) strings))

-- The file of an image with a table of symbols, of so many words of locations, and names. Where there are no locations it
-- is the image's, with no sections.
unfoldable pub fronted : List ℕ → ℕ → ℕ → ℕ → List ℕ
fronted image words symbols names = spoken_for image ++ section_headers (length image) words symbols names

abbrev pub joined : List ℕ → ℕ → List ℕ → List ℕ → List ℕ
joined image words symbols names = fronted image words (length symbols) (length names) ++ (symbols ++ names)

abbrev pub named_file : ℕ → List Location → List ℕ → List ℕ
named_file words locations image = joined image words (symbol_table locations) (strings locations)

abbrev pub file_with : ℕ → List Location → List ℕ → List ℕ
file_with words [] image = image
file_with words (location ∷ locations) image = named_file words (location ∷ locations) image

abbrev pub test_file : LitmusTest → ProgramImage → List ℕ
test_file test image = file_with (length test.words.items) test.locations.items (file_of image)
