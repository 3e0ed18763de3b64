-- The table of the two digits of each byte.

use Rattle.std.proofs.Common.{◌≡◌, ℕ, zero, suc, ◌+◌, ◌*◌, ◌/◌, ◌%◌, ◌^◌, ◌<◌, false, List, [], ◌∷◌, get_or, refl, ◌∙◌, ap, arith}
use Rattle.std.proofs.lemmas.{Bool.Decides.nat_tests}
use Rattle.std.specs.Fmt.{digit_glyph}
use Rattle.text_fields.specs.Spelling.{hex, hex_digit}
use Rattle.text_fields.specs.declared.pairs.TheConstants.{PAIRS}

-- a table of two digits for each of `count` numbers from n on
table : (ℕ → ℕ) → (ℕ → ℕ) → ℕ → ℕ → List ℕ
table high low zero n = []
table high low (suc count) n = high n ∷ low n ∷ table high low count (n + 1)

table_from : (high low : ℕ → ℕ) (count n i : ℕ) → i < count →
    (get_or (table high low count n) (2 * i) 0 ≡ high (n + i)) × (get_or (table high low count n) (2 * i + 1) 0 ≡ low (n + i))
unfolding table
table_from high low zero n i within = absurd (omega arith)
table_from high low (suc count) n zero within =
    let same : n ≡ n + 0 = omega arith in
    (ap high same, ap low same)
table_from high low (suc count) n (suc i) within =
    let first : 2 * suc i ≡ suc (suc (2 * i)) = omega arith in
    let second : 2 * suc i + 1 ≡ suc (suc (2 * i + 1)) = omega arith in
    let same : n + suc i ≡ n + 1 + i = omega arith in
    rw (second, first, same) (table_from high low count (n + 1) i (omega arith))

table_at : (high low : ℕ → ℕ) (count n : ℕ) → n < count →
    (get_or (table high low count 0) (2 * n) 0 ≡ high n) × (get_or (table high low count 0) (2 * n + 1) 0 ≡ low n)
table_at high low count n within =
    let found = table_from high low count 0 n within in
    let same : 0 + n ≡ n = omega arith in
    (found.0 ∙ ap high same, found.1 ∙ ap low same)

-- the digits of each byte

are_pairs : PAIRS ≡ table (λ n. digit_glyph false (n / 16)) (λ n. digit_glyph false (n % 16)) 256 0
unfolding table
are_pairs = refl

pub high_at : (n : ℕ) → n < 256 → get_or PAIRS (2 * n) 0 ≡ digit_glyph false (n / 16)
high_at n within = rw are_pairs (table_at _ _ 256 n within).0

pub low_at : (n : ℕ) → n < 256 → get_or PAIRS (2 * n + 1) 0 ≡ digit_glyph false (n % 16)
low_at n within = rw are_pairs (table_at _ _ 256 n within).1

pub glyph_small : (d : ℕ) → d < 16 → digit_glyph false d < 128
glyph_small d within = grind (arith, nat_tests)

same_eight : (a b c d e f g h i j k l m n o p : ℕ) → a ≡ i → b ≡ j → c ≡ k → d ≡ l → e ≡ m → f ≡ n → g ≡ o → h ≡ p →
    a ∷ b ∷ c ∷ d ∷ e ∷ f ∷ g ∷ h ∷ [] ≡ i ∷ j ∷ k ∷ l ∷ m ∷ n ∷ o ∷ p ∷ []
same_eight a b c d e f g h i j k l m n o p q r s t u v w x = rw (q, r, s, t, u, v, w, x) refl

same_glyph : (a d e : ℕ) → a ≡ digit_glyph false d → d ≡ e → a ≡ digit_glyph false e
same_glyph a d e is same = is ∙ ap (λ x. digit_glyph false x) same

-- the digits of a number are those of its four bytes
pub word_is : (value a b c d e f g h : ℕ) → value < 2 ^ 32 →
    a ≡ digit_glyph false (value / 16777216 / 16) → b ≡ digit_glyph false (value / 16777216 % 16) →
    c ≡ digit_glyph false (value / 65536 % 256 / 16) → d ≡ digit_glyph false (value / 65536 % 256 % 16) →
    e ≡ digit_glyph false (value / 256 % 256 / 16) → f ≡ digit_glyph false (value / 256 % 256 % 16) →
    g ≡ digit_glyph false (value % 256 / 16) → h ≡ digit_glyph false (value % 256 % 16) →
    a ∷ b ∷ c ∷ d ∷ e ∷ f ∷ g ∷ h ∷ [] ≡ hex 8 value
word_is value a b c d e f g h small pa pb pc pd pe pf pg ph =
    same_eight a b c d e f g h (hex_digit 7 value) (hex_digit 6 value) (hex_digit 5 value) (hex_digit 4 value)
    (hex_digit 3 value) (hex_digit 2 value) (hex_digit 1 value) (hex_digit 0 value)
    (same_glyph a (value / 16777216 / 16) (value / 16 ^ 7 % 16) pa (omega arith))
    (same_glyph b (value / 16777216 % 16) (value / 16 ^ 6 % 16) pb (omega arith))
    (same_glyph c (value / 65536 % 256 / 16) (value / 16 ^ 5 % 16) pc (omega arith))
    (same_glyph d (value / 65536 % 256 % 16) (value / 16 ^ 4 % 16) pd (omega arith))
    (same_glyph e (value / 256 % 256 / 16) (value / 16 ^ 3 % 16) pe (omega arith))
    (same_glyph f (value / 256 % 256 % 16) (value / 16 ^ 2 % 16) pf (omega arith))
    (same_glyph g (value % 256 / 16) (value / 16 ^ 1 % 16) pg (omega arith))
    (same_glyph h (value % 256 % 16) (value / 16 ^ 0 % 16) ph (omega arith))
