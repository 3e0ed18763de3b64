-- A decimal number two digits by two digits.

use Rattle.std.proofs.Common.{◌≡◌, ℕ, ◌+◌, ◌/◌, ◌%◌, ◌^◌, ◌<◌, ◌≤◌, List, [], ◌∷◌, ◌++◌, refl, ◌∙◌, ap, arith, append_assoc}
use Rattle.std.proofs.lemmas.{Fmt.decimal_digit, Fmt.decimal_step}
use Rattle.std.specs.Fmt.{decimal}
use Rattle.text_fields.specs.Spelling.{two_digits}

same_two : (a b c d : ℕ) → a ≡ c → b ≡ d → (48 + a) ∷ (48 + b) ∷ [] ≡ (48 + c) ∷ (48 + d) ∷ []
same_two a b c d p q = rw (p, q) refl

-- a number of two digits
pub decimal_two : (n : ℕ) → 10 ≤ n → n < 100 → decimal n ≡ two_digits n
decimal_two n low high =
    decimal_step n low (omega arith) ∙ ap (λ ds. ds ++ (48 + n % 10) ∷ []) (decimal_digit (n / 10) (omega arith))

joined : (ds : List ℕ) (a b : ℕ) → (ds ++ a ∷ []) ++ b ∷ [] ≡ ds ++ a ∷ b ∷ []
joined ds a b = simp append_assoc

-- the two last digits stand behind those of the hundreds
pub decimal_hundreds : (n : ℕ) → 100 ≤ n → n < 2 ^ 32 → decimal n ≡ decimal (n / 100) ++ two_digits (n % 100)
decimal_hundreds n low high =
    let front : n / 10 / 10 ≡ n / 100 = omega arith in
    decimal_step n (omega arith) (omega arith)
    ∙ ap (λ ds. ds ++ (48 + n % 10) ∷ []) (decimal_step (n / 10) (omega arith) (omega arith))
    ∙ joined (decimal (n / 10 / 10)) _ _
    ∙ ap (λ m. decimal m ++ (48 + n / 10 % 10) ∷ (48 + n % 10) ∷ []) front
    ∙ ap (λ ds. decimal (n / 100) ++ ds) (same_two _ _ _ _ (omega arith) (omega arith))

-- what is appended one after another is appended at once
pub two_appended : (old first last whole : List ℕ) (b c : List ℕ) → first ≡ old ++ b → last ≡ first ++ c → whole ≡ b ++ c
    → last ≡ old ++ whole
two_appended old first last whole b c p q r = rw (q, p, r) (simp append_assoc)

pub three_appended : (old first second last whole : List ℕ) (b c d : List ℕ) → first ≡ old ++ b → second ≡ first ++ c
    → last ≡ second ++ d → whole ≡ (b ++ c) ++ d → last ≡ old ++ whole
three_appended old first second last whole b c d p q r s = rw (r, q, p, s) (simp append_assoc)

-- the digits of five to eight places
pub decimal_ten_thousands : (n : ℕ) → 10000 ≤ n → n < 2 ^ 32
    → decimal n ≡ (decimal (n / 100 / 100) ++ two_digits (n / 100 % 100)) ++ two_digits (n % 100)
decimal_ten_thousands n low high =
    decimal_hundreds n (omega arith) high
    ∙ ap (λ ds. ds ++ two_digits (n % 100)) (decimal_hundreds (n / 100) (omega arith) (omega arith))
