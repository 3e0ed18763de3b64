-- The listing of an image's code. (This project's own choice.)
use Rattle.std.specs.Prelude.{ℕ, ◌+◌, ◌*◌, ◌/◌, List, [], ◌∷◌, ◌++◌, Option, Some, None, codes, map}
use Rattle.std.specs.Prelude.{flat_map}
use Rattle.std.specs.List.{range_with_len}
use Rattle.text_fields.specs.Spelling.{hex}
use Rattle.elf_image.specs.Image.{ProgramImage, code_start, code_size, word_in}
use Rattle.rv_instr.specs.{declared.instr.Instr.Instr, Decode.decoded}
use Rattle.rv_text.specs.Spelling.{spelling_of}
use Rattle.address_labels.specs.{Labels.Marks, Texts.labels_text}
use Rattle.address_labels.specs.declared.writing.Form.TheVariants.{Listing}

-- What a word says at an address: its instruction's spelling there, and `.word` where it is none.
abbrev pub text_of : Option Instr → ℕ → List ℕ
text_of (Some instr) pc = spelling_of instr pc
text_of None pc = codes ".word"

-- An address or a word as eight hexadecimal digits, and a space.
unfoldable pub field_of : ℕ → List ℕ
field_of number = hex 8 number ++ 32 ∷ []

-- A line: the address, the word, what the word says there, what is wanted beside the address, and a newline.
abbrev pub listing_line : Marks → ℕ → ℕ → List ℕ
listing_line marks pc word =
    field_of pc ++ field_of word ++ text_of (decoded word) pc ++ labels_text Listing marks pc ++ 10 ∷ []

-- The addresses of so many words that stand one after the other.
abbrev pub word_addresses : ℕ → ℕ → List ℕ
word_addresses start count = map (λ i. start + 4 * i) (range_with_len 0 count)

-- The whole listing: a line for each word of the code, by rising address, to the end of its zeros.
abbrev pub listing_text : Marks → ProgramImage → List ℕ
listing_text marks image =
    flat_map (λ pc. listing_line marks pc (word_in image pc))
    (word_addresses (code_start image) (code_size image / 4))
