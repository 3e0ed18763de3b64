-- Why a text has no lines of an image's sources: its first line that is none, and what is wrong with it.
use Rattle.std.specs.Prelude.{◌≡◌, ℕ, ◌+◌, ◌==◌, not, nat_lt, Bool, true, false, if◌then◌else◌, List, [], ◌∷◌, ◌++◌}
use Rattle.std.specs.Prelude.{Option, Some, None, Result, Ok, Err, length, reverse, ◌^◌, ◌-◌}
use Rattle.text_fields.specs.{Reading.decimal_field, Reading.hex_field, Splitting.field, Splitting.field_count, Splitting.rest}
use Rattle.elf_image.specs.Image.{ProgramImage, has_code_word}
use Rattle.source_lines.specs.Lines.{AreLinesOf, Origin, lines_text}
use Rattle.source_lines.specs.declared.line.LineFault.{LineFault}
use Rattle.source_lines.specs.declared.line.LineFault.TheVariants as fault
use Rattle.source_lines.specs.declared.reading.LinesRefused.{LinesRefused}
use Rattle.source_lines.specs.declared.reading.LinesRefused.TheVariants.{Line, Memory}

-- What stands behind the address of a line; in that the name of the file, up to the last space, and the number.
abbrev pub behind_address : List ℕ → List ℕ
behind_address line = rest 32 line

abbrev pub file_in : List ℕ → List ℕ
file_in others = reverse (rest 32 (reverse others))

abbrev pub number_in : List ℕ → List ℕ
number_in others = reverse (field 32 (reverse others))

-- The number that was read isn't one of a line.
abbrev pub is_no_number : {E : Type 0} → Result ℕ E → Bool
is_no_number (Ok number) = number == 0
is_no_number (Err error) = true

abbrev pub is_unread : {E : Type 0} → Result ℕ E → Bool
is_unread (Ok number) = false
is_unread (Err error) = true

-- What is wrong first with the spelling of a line, if anything is.
abbrev pub spelling_fault : List ℕ → Option LineFault
spelling_fault line =
    if is_unread (hex_field 8 (field 32 line)) then Some fault.Address
    else (if length (file_in (behind_address line)) == 0 then Some fault.File
    else (if is_no_number (decimal_field (2 ^ 32 - 1) (number_in (behind_address line))) then Some fault.Number
    else None))

-- The number that was read; 0 where there is none.
abbrev pub number_or_none : {E : Type 0} → Result ℕ E → ℕ
number_or_none (Ok number) = number
number_or_none (Err error) = 0

-- The address of a line, where it has one.
abbrev pub address_in : List ℕ → ℕ
address_in line = number_or_none (hex_field 8 (field 32 line))

-- An address is behind the last one.
abbrev pub is_behind : Option ℕ → ℕ → Bool
is_behind None address = true
is_behind (Some last) address = nat_lt last address

-- What is wrong with the place of a line that is spelled well: no word of the code is there, or it isn't behind the last.
abbrev pub place_fault : ProgramImage → Option ℕ → ℕ → Option LineFault
place_fault image last address =
    if not (has_code_word image address) then Some fault.Outside
    else (if not (is_behind last address) then Some fault.Order else None)

abbrev pub or_else : Option LineFault → Option LineFault → Option LineFault
or_else None other = other
or_else (Some one) other = Some one

-- What is wrong first with the first line of a text, behind a line of this address.
abbrev pub fault_of : ProgramImage → Option ℕ → List ℕ → Option LineFault
fault_of image last text =
    if field_count 10 text == 1 then Some fault.End
    else or_else (spelling_fault (field 10 text)) (place_fault image last (address_in (field 10 text)))

-- The address of the last of some lines.
abbrev pub last_address : List Origin → Option ℕ
last_address [] = None
last_address (origin ∷ []) = Some origin.address
last_address (origin ∷ next ∷ others) = last_address (next ∷ others)

-- The line with this number, from 1, is the first of a text that is none of the image: those before it are.
pub record IsFirstRefused (image : ProgramImage) (text : List ℕ) (number : ℕ) (fault : LineFault) : Type 0 where
  pub before : List Origin
  pub left : List ℕ
  pub whole : text ≡ lines_text before ++ left
  pub are : AreLinesOf image (lines_text before) before
  pub count : number ≡ length before + 1
  pub more : (length left == 0) ≡ false
  pub fails : fault_of image (last_address before) left ≡ Some fault

-- When each refusal comes. Of memory nothing is said.
abbrev pub IsLinesRefusal : ProgramImage → List ℕ → LinesRefused → Type 0
IsLinesRefusal image text (Line number fault) = IsFirstRefused image text number fault
IsLinesRefusal image text Memory = Unit {0}
