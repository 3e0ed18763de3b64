-- The lines of an image's sources, as a text has them. (This project's own choice.)
use Rattle.std.specs.Prelude.{◌≡◌, ◌≢◌, ℕ, ◌<◌, ◌≤◌, ◌==◌, true, List, [], ◌∷◌, ◌++◌, All, AllPairs, find, flat_map, map, Option}
use Rattle.std.specs.{Fmt.decimal}
use Rattle.text_fields.specs.{Spelling.hex, Splitting.Lacks}
use Rattle.elf_image.specs.Image.{ProgramImage, has_code_word}
use Rattle.source_lines.specs.declared.line.SourceLine.{SourceLine}

-- Where a word of the code comes from: its address, a file by its name, and a line in that.
pub record Origin : Type 0 where
  pub address : ℕ
  pub file : List ℕ
  pub number : ℕ

abbrev pub origin_of : SourceLine → Origin
origin_of line = record { address = line.address; file = line.file.now; number = line.number }

abbrev pub origins_of : List SourceLine → List Origin
origins_of lines = map origin_of lines

-- The text of a line, without its newline and with it.
abbrev pub line_text : Origin → List ℕ
line_text origin = hex 8 origin.address ++ 32 ∷ (origin.file ++ 32 ∷ decimal origin.number)

abbrev pub lines_text : List Origin → List ℕ
lines_text origins = flat_map (λ origin. line_text origin ++ 10 ∷ []) origins

-- It is one of an image: of a word of its code, with a file that has a name, and a line from 1 on.
pub record IsOriginIn (image : ProgramImage) (origin : Origin) : Type 0 where
  pub word : has_code_word image origin.address ≡ true
  pub named : origin.file ≢ []
  pub whole : Lacks 10 origin.file
  pub from_one : 1 ≤ origin.number

-- The addresses rise.
abbrev pub AreRising : List Origin → Type 0
AreRising origins = AllPairs (λ (one : Origin) (other : Origin). one.address < other.address) origins

-- A text has these lines, each of the image, by rising address.
pub record AreLinesOf (image : ProgramImage) (text : List ℕ) (origins : List Origin) : Type 0 where
  pub whole : text ≡ lines_text origins
  pub each : All (IsOriginIn image) origins
  pub rising : AreRising origins

-- The line that says where the word at an address comes from, if one says it.
abbrev pub line_for : List Origin → ℕ → Option Origin
line_for origins address = find (λ origin. origin.address == address) origins
