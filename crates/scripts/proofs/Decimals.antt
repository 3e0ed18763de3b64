-- Lemmas on decimal numbers as texts.
use Rattle.std.proofs.Common.{◌≡◌, ℕ, ◌+◌, ◌-◌, ◌<◌, ◌≤◌, ◌^◌, List, [], ◌∷◌, length, sym, ap, ◌∙◌}
use Rattle.std.proofs.Common.{slice_index_or, arith}
use Rattle.std.specs.{Fmt.decimal, Str.Parse.AllDigits, Str.Parse.digits_value}
use Rattle.std.proofs.{lemmas.List.get_or_default}
use Rattle.std.proofs.lemmas.Str.Parse.{IsNumeralModel, numerals_by_value, tells_digits, digit_at}
use Rattle.std.proofs.lemmas.Fmt.{digits_decimal, decimal_digit}

-- decimal digits, as the standard library's `parse` has them
pub own : IsNumeralModel (AllDigits 10) (digits_value 10)
own = numerals_by_value _ tells_digits

-- a number's text has no byte below the digits
pub lacks_decimal : (byte n : ℕ) → byte < 48 → n < 2 ^ 64 → (k d : ℕ) → k < length (decimal n)
    → slice_index_or (decimal n) k d ≡ byte → ⊥
lacks_decimal byte n low small k d inside e =
    let range = digit_at (decimal n) k (digits_decimal own n small) inside in
    absurd (omega (arith, range.0, get_or_default (decimal n) k d 0 inside, e))

-- a byte that is a digit is the text of its number
pub one_digit : (text : List ℕ) → length text ≡ 1 → 48 ≤ slice_index_or text 0 0 → slice_index_or text 0 0 < 58
    → text ≡ decimal (slice_index_or text 0 0 - 48)
one_digit [] one low high = absurd (omega (arith, one))
one_digit (byte ∷ []) one low high =
    let whole : 48 + (byte - 48) ≡ byte = omega arith in
    sym (decimal_digit (byte - 48) (omega arith) ∙ ap (λ n. n ∷ []) whole)
one_digit (byte ∷ next ∷ rest) one low high = absurd (omega (arith, one))
