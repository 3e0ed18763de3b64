-- A hexadecimal field is read back as the number that was spelled, and no other text is read as it.

use Rattle.std.proofs.Common.{◌≡◌, ℕ, suc, zero, ◌+◌, ◌*◌, ◌/◌, ◌%◌, ◌^◌, ◌<◌, Bool, true, false, ◌&&◌, cond, ◌==◌}
use Rattle.std.proofs.Common.{List, [], ◌∷◌, length, Ok, Err, refl, sym, ◌∙◌, ap, zero-add, add_assoc, arith, lit<}
use Rattle.std.proofs.Math.Arith.{digits_lt, digits_div, digits_mod, mod-mul}
use Rattle.std.proofs.Math.Nat.{mod-lt, mod-one, mod-eq_of_lt, pow-succ', pow-zero, one-le-pow, mul_assoc, add-mul}
use Rattle.std.proofs.lemmas.Bool.Decides.{nat_tests}
use Rattle.std.specs.{Fmt.digit_glyph, List.list_all}
use Rattle.text_fields.specs.{declared.read.FieldError.TheVariants.Misspelled, Spelling.hex}
use Rattle.text_fields.specs.Reading.{hex_after, hex_digit_value, hex_field, is_hex_digit}

-- a digit is spelled by a digit, which stands for it
glyph_digit : (digit : ℕ) → digit < 16 → is_hex_digit (digit_glyph false digit) ≡ true
glyph_digit digit low = grind (arith, nat_tests)

glyph_value : (digit : ℕ) → digit < 16 → hex_digit_value (digit_glyph false digit) ≡ digit
glyph_value digit low = grind (arith, nat_tests)

-- and is the only one that does
value_low : (c : ℕ) → is_hex_digit c ≡ true → hex_digit_value c < 16
value_low c digit = grind (arith, nat_tests)

value_glyph : (c : ℕ) → is_hex_digit c ≡ true → digit_glyph false (hex_digit_value c) ≡ c
value_glyph c digit = grind (arith, nat_tests)

place_low : (place n : ℕ) → n / 16 ^ place % 16 < 16
place_low place n = mod-lt (n / 16 ^ place) (lit< tt)

power_some : (place : ℕ) → 0 < 16 ^ place
power_some place = one-le-pow place 16 (lit< tt)

pub length-hex : (count n : ℕ) → length (hex count n) ≡ count
length-hex zero n = refl
length-hex (suc place) n = ap suc (length-hex place n)

pub hex_digits : (count n : ℕ) → list_all is_hex_digit (hex count n) ≡ true
hex_digits zero n = refl
hex_digits (suc place) n = rw (glyph_digit (n / 16 ^ place % 16) (place_low place n)) (hex_digits place n)

regroup : (v digit power rest : ℕ) → (v * 16 + digit) * power + rest ≡ v * (16 * power) + (digit * power + rest)
regroup v digit power rest = rw (add-mul, mul_assoc, add_assoc) refl

-- what the digits after a number make of it
pub hex_after-hex : (count n v : ℕ) → hex_after v (hex count n) ≡ v * 16 ^ count + n % 16 ^ count
hex_after-hex zero n v = rw (pow-zero, mod-one) (omega arith)
hex_after-hex (suc place) n v =
    let first = ap (λ digit. hex_after (v * 16 + digit) (hex place n))
    (glyph_value (n / 16 ^ place % 16) (place_low place n)) in
    let others = hex_after-hex place n (v * 16 + n / 16 ^ place % 16) in
    let together = regroup v (n / 16 ^ place % 16) (16 ^ place) (n % 16 ^ place) in
    first ∙ others ∙ rw (pow-succ' 16 place, mod-mul n {m = 16} {c = 16 ^ place} (lit< tt) (power_some place)) together

hex_after_zero-hex : (count n : ℕ) → n < 16 ^ count → hex_after 0 (hex count n) ≡ n
hex_after_zero-hex count n small =
    let whole = hex_after-hex count n 0 in
    let same : n % 16 ^ count ≡ n = mod-eq_of_lt small in
    omega (arith, whole, same)

pub hex_field-hex : (count n : ℕ) → n < 16 ^ count → hex_field count (hex count n) ≡ Ok n
unfolding hex_field
hex_field-hex count n small =
    let long = length-hex count n in
    let exact : (length (hex count n) == count) ≡ true = grind (arith, nat_tests, long) in
    rw (exact, hex_digits count n, hex_after_zero-hex count n small) refl

-- the number so far weighs as much as the digits to come have places
record Weighs (v : ℕ) (text : List ℕ) : Type 0 where
  whole : hex_after v text ≡ v * 16 ^ length text + hex_after 0 text
  rest : hex_after 0 text < 16 ^ length text

-- one more digit in front, over plain numbers
more_whole : (v digit power rest all alone : ℕ) → all ≡ (v * 16 + digit) * power + rest →
    alone ≡ (0 * 16 + digit) * power + rest → all ≡ v * (16 * power) + alone
more_whole v digit power rest all alone is alone_is =
    let front : (0 * 16 + digit) * power + rest ≡ digit * power + rest = rw (zero-add digit) refl in
    is ∙ regroup v digit power rest ∙ ap (λ low. v * (16 * power) + low) (sym (alone_is ∙ front))

more_rest : (digit power rest alone : ℕ) → digit < 16 → rest < power → alone ≡ (0 * 16 + digit) * power + rest
    → alone < 16 * power
more_rest digit power rest alone low below is =
    let front : (0 * 16 + digit) * power + rest ≡ digit * power + rest = rw (zero-add digit) refl in
    rw (is, front) (digits_lt low below)

weighs : (v : ℕ) (text : List ℕ) → list_all is_hex_digit text ≡ true → Weighs v text
weighs v [] digits = record { whole = omega arith; rest = lit< tt }
weighs v (c ∷ cs) digits =
    let parts : (is_hex_digit c ≡ true) × (list_all is_hex_digit cs ≡ true) = (grind arith, grind arith) in
    let here = weighs (v * 16 + hex_digit_value c) cs parts.1 in
    let alone = weighs (0 * 16 + hex_digit_value c) cs parts.1 in
    let whole = more_whole v (hex_digit_value c) (16 ^ length cs) (hex_after 0 cs) _ _ here.whole alone.whole in
    let rest = more_rest (hex_digit_value c) (16 ^ length cs) (hex_after 0 cs) _
    (value_low c parts.0) alone.rest alone.whole in
    record { whole = rw pow-succ' whole; rest = rw pow-succ' rest }

pub digits_small : (text : List ℕ) → list_all is_hex_digit text ≡ true → hex_after 0 text < 16 ^ length text
digits_small text digits = (weighs 0 text digits).rest

-- digits are the spelling of the number that they write
pub hex-hex_after : (v : ℕ) (text : List ℕ) → list_all is_hex_digit text ≡ true
    → hex (length text) (hex_after v text) ≡ text
hex-hex_after v [] digits = refl
hex-hex_after v (c ∷ cs) digits =
    let parts : (is_hex_digit c ≡ true) × (list_all is_hex_digit cs ≡ true) = (grind arith, grind arith) in
    let here = weighs (v * 16 + hex_digit_value c) cs parts.1 in
    let above = ap (λ n. n / 16 ^ length cs) here.whole ∙ digits_div (v * 16 + hex_digit_value c) here.rest in
    let digit = ap (λ n. n % 16) above ∙ digits_mod v (value_low c parts.0) in
    let first = ap (digit_glyph false) digit ∙ value_glyph c parts.0 in
    let others = hex-hex_after (v * 16 + hex_digit_value c) cs parts.1 in
    ap (λ d. d ∷ hex (length cs) (hex_after (v * 16 + hex_digit_value c) cs)) first ∙ ap (λ ds. c ∷ ds) others

when_ok : (b : Bool) (value n : ℕ) → cond b (Ok value) (Err Misspelled) ≡ Ok n → (b ≡ true) × (value ≡ n)
when_ok true value n h = (refl, cc)
when_ok false value n h = cc

pub hex_field_only : (count n : ℕ) (text : List ℕ) → hex_field count text ≡ Ok n
    → (n < 16 ^ count) × (text ≡ hex count n)
unfolding hex_field
hex_field_only count n text read =
    let given = when_ok (length text == count && list_all is_hex_digit text) (hex_after 0 text) n read in
    let tests : (length text ≡ count) × (list_all is_hex_digit text ≡ true) =
    (grind (arith, nat_tests, given.0), grind (arith, nat_tests, given.0)) in
    let small = (weighs 0 text tests.1).rest in
    let spelled = hex-hex_after 0 text tests.1 in
    (rw (← tests.0, ← given.1) small, sym spelled ∙ rw (tests.0, given.1) refl)
