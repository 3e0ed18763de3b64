-- Fields lack each byte that stands between fields: the space, the comma, the newline and more.

use Rattle.std.proofs.Common.{◌≡◌, ℕ, ◌^◌, ◌<◌, Bool, true, false, not, ◌==◌, List, [], ◌∷◌, ◌++◌}
use Rattle.std.proofs.Common.{refl, ◌∙◌, arith}
use Rattle.std.proofs.{lemmas.Bool.Decides.nat_tests, lemmas.List.Folds.list_all-append}
use Rattle.std.specs.{Char.is_ascii_digit, Fmt.decimal, List.list_all}
use Rattle.text_fields.specs.{Reading.is_hex_digit, Spelling.hex, Splitting.Lacks}
use Rattle.text_fields.proofs.{DecimalLaws.decimal_digits, HexLaws.hex_digits}

-- bytes that all pass a test lack one that does not
pub Lacks-from_all : (p : ℕ → Bool) (s : ℕ) (text : List ℕ) → p s ≡ false → list_all p text ≡ true → Lacks s text
Lacks-from_all p s [] fails passes = refl
Lacks-from_all p s (c ∷ cs) fails passes =
    let parts : (p c ≡ true) × (list_all p cs ≡ true) = (grind arith, grind arith) in
    let other : (c == s) ≡ false = grind (arith, nat_tests) in
    rw other (Lacks-from_all p s cs fails parts.1)

pub Lacks-append : (s : ℕ) (a b : List ℕ) → Lacks s a → Lacks s b → Lacks s (a ++ b)
Lacks-append s a b first second = list_all-append (λ byte. not (byte == s)) a b ∙ rw (first, second) refl

pub Lacks-decimal : (s n : ℕ) → is_ascii_digit s ≡ false → n < 2 ^ 64 → Lacks s (decimal n)
Lacks-decimal s n other small = Lacks-from_all is_ascii_digit s (decimal n) other (decimal_digits n small)

pub Lacks-hex : (s count n : ℕ) → is_hex_digit s ≡ false → Lacks s (hex count n)
Lacks-hex s count n other = Lacks-from_all is_hex_digit s (hex count n) other (hex_digits count n)
