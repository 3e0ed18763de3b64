-- A decimal field is read back as the number that was spelled, and no other text is read as it.

use Rattle.std.proofs.Common.{◌≡◌, ℕ, suc, zero, ◌^◌, ◌<◌, ◌≤◌, Bool, true, false, cond, nat_le, List, length, get_or}
use Rattle.std.proofs.Common.{Result, Ok, Err, refl, sym, ◌∙◌, ap, arith, rules, lit<}
use Rattle.std.proofs.{lemmas.Bool.Decides.nat_tests, lemmas.Str.Parse.IsNumeralModel}
use Rattle.std.proofs.{lemmas.Str.Parse.numerals_by_fold}
use Rattle.std.proofs.lemmas.Fmt.{decimal_nonempty, first_decimal, decimal_digit, digits_decimal, digits_value-decimal}
use Rattle.std.proofs.lemmas.Fmt.{decimal-digits_value}
use Rattle.std.specs.{Char.is_ascii_digit, Fmt.decimal, List.list_all}
use Rattle.text_fields.specs.{declared.read.FieldError.FieldError, declared.read.FieldError.TheVariants.Misspelled}
use Rattle.text_fields.specs.{declared.read.FieldError.TheVariants.OutOfRange, Reading.decimal_after}
use Rattle.text_fields.specs.{Reading.decimal_field, Reading.is_number}

-- the standard library's lemmas on numerals hold of these digits and their number
pub numerals : IsNumeralModel (λ text. list_all is_ascii_digit text ≡ true) (decimal_after 0)
numerals = numerals_by_fold _ (search rules) decimal_after (search rules)

pub decimal_digits : (n : ℕ) → n < 2 ^ 64 → list_all is_ascii_digit (decimal n) ≡ true
decimal_digits n small = digits_decimal numerals n small

pub decimal_after-decimal : (n : ℕ) → n < 2 ^ 64 → decimal_after 0 (decimal n) ≡ n
decimal_after-decimal n small = digits_value-decimal numerals n small

-- the tests of `is_number`, from the three facts
number_from : (text : List ℕ) → 0 < length text → (get_or text 0 0 ≡ 48 → length text ≡ 1) →
    list_all is_ascii_digit text ≡ true → is_number text ≡ true
number_from text some alone digits = grind (arith, nat_tests)

pub is_number-decimal : (n : ℕ) → n < 2 ^ 64 → is_number (decimal n) ≡ true
is_number-decimal zero small = rw (decimal_digit 0 (lit< tt)) refl
is_number-decimal (suc n) small =
    let first : 48 < get_or (decimal (suc n)) 0 0 = first_decimal (suc n) (omega arith) small in
    number_from _ (decimal_nonempty (suc n) small) (λ zero_first. absurd (omega (arith, first, zero_first)))
    (decimal_digits (suc n) small)

pub decimal_field-decimal : (max n : ℕ) → n ≤ max → max < 2 ^ 64 → decimal_field max (decimal n) ≡ Ok n
unfolding decimal_field
decimal_field-decimal max n within small =
    let fits : n < 2 ^ 64 = omega arith in
    let number = is_number-decimal n fits in
    let value = decimal_after-decimal n fits in
    let low : nat_le n max ≡ true = grind (arith, nat_tests) in
    rw (number, value, low) refl

-- what a test that lets a number through was, and what it let through
when_ok : (b : Bool) (r : Result ℕ FieldError) (e : FieldError) (n : ℕ) → cond b r (Err e) ≡ Ok n
    → (b ≡ true) × (r ≡ Ok n)
when_ok true r e n h = (refl, h)
when_ok false r e n h = cc

-- the three facts, from the tests of `is_number`
number_parts : (text : List ℕ) → is_number text ≡ true →
    (0 < length text) × (get_or text 0 0 ≡ 48 → length text ≡ 1) × (list_all is_ascii_digit text ≡ true)
number_parts text number = (grind (arith, nat_tests), grind (arith, nat_tests), grind (arith, nat_tests))

pub decimal_field_only : (max n : ℕ) (text : List ℕ) → max < 2 ^ 64 → decimal_field max text ≡ Ok n
    → (n ≤ max) × (text ≡ decimal n)
unfolding decimal_field
decimal_field_only max n text small read =
    let value = decimal_after 0 text in
    let number = when_ok (is_number text) (cond (nat_le value max) (Ok value) (Err OutOfRange)) Misspelled n read in
    let low = when_ok (nat_le value max) (Ok value) OutOfRange n number.1 in
    let same : value ≡ n = cc (low.1) in
    let within : value ≤ max = grind (arith, nat_tests, low.0) in
    let parts = number_parts text number.0 in
    let spelled = decimal-digits_value numerals text parts.2 parts.0 parts.1 (omega (arith, within, small)) in
    (omega (arith, same, within), sym spelled ∙ ap decimal same)
