-- The code of an image, decoded: what memory has there now.
use Rattle.std.specs.Prelude.{◌≡◌, ℕ, ◌+◌, ◌-◌, ◌*◌, ◌/◌, ◌%◌, ◌<◌, ◌==◌, ◌&&◌, nat_le, nat_lt, Bool}
use Rattle.std.specs.Prelude.{if◌then◌else◌, List, length, slice_index_or, Option, Some, None}
use Rattle.std.specs.List.{slice_get}
use Rattle.std.specs.Option.{MatchOption}
use Rattle.elf_image.specs.Image.{ProgramImage, code_start, code_size, word_now}
use Rattle.rv_instr.specs.Decode.{op_of_word}
use Rattle.rv_instr.specs.Table.{OpInRange}
use Rattle.decoded_code.specs.{declared.code.Code.Code, declared.code.Fetched.Fetched}

-- What lies at the pc, where words of four bytes each lie from `start` on.
abbrev pub found_at : List Fetched → ℕ → ℕ → Option Fetched
found_at words start pc =
    if nat_le start pc && ((pc - start) % 4 == 0)
    then slice_get words ((pc - start) / 4) else None

-- It is the word at the pc, decoded, where memory holds these bytes.
pub record IsFetched (image : ProgramImage) (bytes : ℕ → ℕ) (pc : ℕ) (f : Fetched) : Type 0 where
  pub word : word_now image bytes pc ≡ Some f.word
  pub op : f.op ≡ op_of_word (Some f.word)
  pub in_range : OpInRange f.op

-- It is what memory has at the pc.
abbrev pub IsFound : ProgramImage → (ℕ → ℕ) → ℕ → Option Fetched → Type 0
IsFound image bytes pc found =
    MatchOption found (word_now image bytes pc ≡ None) (IsFetched image bytes pc)

-- The code is what memory has where the image's code lies: each of its words, decoded.
pub record IsCodeOf (image : ProgramImage) (bytes : ℕ → ℕ) (code : Code) : Type 0 where
  pub start : code.start ≡ code_start image
  pub aligned : code.start % 4 ≡ 0
  pub size : 4 * length code.words.items ≡ code_size image
  pub each :
      (i : ℕ) (d : Fetched) → i < length code.words.items
      → IsFetched image bytes (code.start + 4 * i) (slice_index_or code.words.items i d)

-- The place of the word that has the byte at an address, among so many words from `start` on.
abbrev pub place_of : ℕ → ℕ → ℕ → Option ℕ
place_of start count addr =
    if nat_le start addr && nat_lt ((addr - start) / 4) count then Some ((addr - start) / 4)
    else None
