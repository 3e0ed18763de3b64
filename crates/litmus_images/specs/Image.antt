-- The image of a litmus test: its locations, and its code. [this project's own choice]
use Rattle.std.specs.Prelude.{◌≡◌, ℕ, ◌+◌, ◌^◌, ◌<◌, List, [], ◌∷◌, ◌++◌, map, flat_map}
use Rattle.rv_instr.specs.{declared.instr.Instr.Instr, Table.Spells}
use Rattle.elf_image.specs.Image.{ProgramImage, ProgramSegment, ram_start}
use Rattle.elf_image.specs.Written.{word_bytes}
use Rattle.litmus_tests.specs.declared.{test.LitmusTest.LitmusTest, value.Value.Value}
use Rattle.litmus_tests.specs.Conditions.{number_of}
use Rattle.litmus_images.specs.Code.{code_of}

-- Where the code begins: behind room for the words of the most locations that a test may have.
abbrev pub code_begin : ℕ
code_begin = ram_start + 256

-- The numbers that the locations' words hold at the start.
abbrev pub initial_words : List Value → List ℕ
initial_words values = map number_of values

-- The words of the locations are readable and writable, from the start of RAM on, each with its initial value; no
-- segment where there is none.
unfoldable pub locations_segment : List Value → List ProgramSegment
locations_segment [] = []
locations_segment (value ∷ others) = record {
  address = ram_start;
  bytes = flat_map word_bytes (initial_words (value ∷ others));
  flags = 6;
} ∷ []

-- The words spell the instructions, one each.
abbrev pub SpellEach : List ℕ → List Instr → Type 0
SpellEach [] [] = Unit {0}
SpellEach (word ∷ words) (instruction ∷ instructions) =
    (word < 2 ^ 32) × Spells word instruction × SpellEach words instructions
SpellEach [] (instruction ∷ instructions) = ⊥
SpellEach (word ∷ words) [] = ⊥

-- The bytes are those of words that spell the instructions. (FENCE alone has more spellings than one.)
pub record IsSpelled (bytes : List ℕ) (code : List Instr) : Type 0 where
  pub words : List ℕ
  pub spelled : SpellEach words code
  pub laid : bytes ≡ flat_map word_bytes words

-- The image of a test whose code has these bytes: the locations, then the code, readable and executable, with the
-- entry at its start.
unfoldable pub litmus_image : LitmusTest → List ℕ → ProgramImage
litmus_image test code = record {
  ram = 65536;
  entry = code_begin;
  segments = locations_segment test.words.items
      ++ record { address = code_begin; bytes = code; flags = 5 } ∷ [];
}

-- An image of the test.
pub record IsLitmusImage (test : LitmusTest) (image : ProgramImage) : Type 0 where
  pub code : List ℕ
  pub spelled : IsSpelled code (code_of test)
  pub made : image ≡ litmus_image test code
