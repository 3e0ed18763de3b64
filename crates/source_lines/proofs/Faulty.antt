-- What is wrong with a line, by the tests of its reader.
use Rattle.std.proofs.Common.{◌≡◌, ℕ, Bool, true, false, not, ◌==◌, if◌then◌else◌, List, Option, Some, None, sym, ap, ◌∙◌}
use Rattle.std.specs.Option.{is_some}
use Rattle.text_fields.specs.Splitting.{field, field_count}
use Rattle.elf_image.specs.Image.{ProgramImage, byte_in, code_word, has_code_word, word_now, word_of}
use Rattle.source_lines.specs.Faults.{address_in, fault_of, is_behind, or_else, place_fault, spelling_fault}
use Rattle.source_lines.specs.declared.line.LineFault.{LineFault}
use Rattle.source_lines.specs.declared.line.LineFault.TheVariants as fault

-- a line that is spelled well has what is wrong with its place
pub by_place : (image : ProgramImage) (last : Option ℕ) (text line : List ℕ) (address : ℕ)
    → (field_count 10 text == 1) ≡ false → line ≡ field 10 text → spelling_fault line ≡ None → address_in line ≡ address
    → fault_of image last text ≡ place_fault image last address
by_place image last text line address more is spelled at =
    let whole : Option LineFault = or_else (spelling_fault (field 10 text)) (place_fault image last (address_in (field 10 text))) in
    ap (λ (b : Bool). if b then Some fault.End else whole) more
    ∙ ap (λ (bs : List ℕ). or_else (spelling_fault bs) (place_fault image last (address_in bs))) (sym is)
    ∙ ap (λ (wrong : Option LineFault). or_else wrong (place_fault image last (address_in line))) spelled
    ∙ ap (λ (n : ℕ). place_fault image last n) at

pub is_outside : (image : ProgramImage) (last : Option ℕ) (address : ℕ) → has_code_word image address ≡ false
    → place_fault image last address ≡ Some fault.Outside
is_outside image last address none =
    let behind : Option LineFault = if not (is_behind last address) then Some fault.Order else None in
    ap (λ (b : Bool). if not b then Some fault.Outside else behind) none

pub in_code : (image : ProgramImage) (last : Option ℕ) (address : ℕ) (behind : Bool) → has_code_word image address ≡ true
    → is_behind last address ≡ behind
    → place_fault image last address ≡ (if not behind then Some fault.Order else None)
in_code image last address behind some is =
    let order : Option LineFault = if not (is_behind last address) then Some fault.Order else None in
    ap (λ (b : Bool). if not b then Some fault.Outside else order) some
    ∙ ap (λ (b : Bool). if not b then Some fault.Order else None) is

-- whether a word of the code is there
by_word : (b : Bool) (word : ℕ) (there : Bool) → is_some (if b then Some word else None) ≡ there → b ≡ there
by_word true word there is = is
by_word false word there is = is

pub word_there : (image : ProgramImage) (pc : ℕ) (there : Bool) → is_some (code_word image pc) ≡ there
    → has_code_word image pc ≡ there
unfolding word_now
word_there image pc there is = by_word (has_code_word image pc) (word_of (byte_in image) pc) there is
