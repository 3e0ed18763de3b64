-- What is shown has no control character.
use Rattle.std.proofs.Common.{◌≡◌, ℕ, Bool, true, false, not, ◌&&◌, ◌||◌, ◌==◌, List, [], ◌∷◌, ◌++◌, refl, sym, ap, ◌∙◌, arith}
use Rattle.std.proofs.lemmas.Bool.Decides.{nat_tests}
use Rattle.std.proofs.lemmas.Bool.{cases_Bool}
use mathlib.Core.Logic.{inl, inr}
use Rattle.std.specs.List.{list_all}
use Rattle.std.proofs.lemmas.List.Folds.{list_all-append}
use Rattle.std.proofs.lemmas.List.Concat.{flat_map-cons}
use Rattle.text_fields.specs.{Spelling.hex, Reading.is_hex_digit}
use Rattle.text_fields.proofs.HexLaws.{hex_digits}
use Rattle.shown_text.specs.Shown.{is_control, shown_byte, shown}
use Rattle.hints.specs.Lines.{is_shown, are_shown}

pub append_shown : (a b : List ℕ) → are_shown a ≡ true → are_shown b ≡ true → are_shown (a ++ b) ≡ true
append_shown a b first second = rw (list_all-append is_shown a b, first, second) refl

digit_shown : (d : ℕ) → is_hex_digit d ≡ true → is_shown d ≡ true
digit_shown d digit = grind (arith, nat_tests)

digits_shown : (ds : List ℕ) → list_all is_hex_digit ds ≡ true → are_shown ds ≡ true
digits_shown [] are = refl
digits_shown (d ∷ ds) are =
    let parts : (is_hex_digit d ≡ true) × (list_all is_hex_digit ds ≡ true) = (grind arith, grind arith) in
    rw (digit_shown d parts.0, digits_shown ds parts.1) refl

byte_shown : (byte : ℕ) → are_shown (shown_byte byte) ≡ true
byte_shown byte =
    elim (cases_Bool (is_control byte)) [
      | inl control ↦ rw control (digits_shown (hex 2 byte) (hex_digits 2 byte))
      | inr other ↦ rw (other, other) refl
    ]

pub shown_is_shown : (text : List ℕ) → are_shown (shown text) ≡ true
shown_is_shown [] = refl
shown_is_shown (byte ∷ rest) =
    rw (flat_map-cons shown_byte byte rest)
    (append_shown (shown_byte byte) (shown rest) (byte_shown byte) (shown_is_shown rest))

-- what was cut, and the dots behind it
pub cut_shown : (text : List ℕ) → are_shown (shown text ++ 46 ∷ 46 ∷ 46 ∷ []) ≡ true
cut_shown text = append_shown (shown text) (46 ∷ 46 ∷ 46 ∷ []) (shown_is_shown text) refl
