-- Lemmas on hexadecimal digits.

use Rattle.std.proofs.Common.{◌≡◌, ℕ, zero, suc, ◌+◌, ◌-◌, ◌*◌, ◌^◌, ◌<◌, ◌≤◌, ◌∷◌, ◌++◌, [], List, refl, sym, ◌∙◌, ap}
use Rattle.std.proofs.Common.{arith, lit<, append_assoc}
use Rattle.std.proofs.{Math.Nat.pow-suc, Math.Nat.pow-le-pow_right, lemmas.Nat.pow-add}
use Rattle.text_fields.specs.Spelling.{hex, hex_digit}

-- four bits are a hexadecimal digit
pub pow-four_bits : (place : ℕ) → 2 ^ (4 * place) ≡ 16 ^ place
pow-four_bits zero = refl
pow-four_bits (suc place) =
    let split : 4 * suc place ≡ 4 * place + 4 = omega arith in
    rw (split, pow-add 2 (4 * place) 4, pow-four_bits place, pow-suc 16 place)

-- the digits down from a place are its own and those below
pub hex_down : (place n : ℕ) → 0 < place → hex place n ≡ hex_digit (place - 1) n ∷ hex (place - 1) n
hex_down zero n h = absurd (omega arith)
hex_down (suc place) n h =
    let same : suc place - 1 ≡ place = omega arith in
    rw same refl

-- a digit pushed onto a text stands before the lower ones
pub push_digit : (text more whole : List ℕ) (place n : ℕ) → 0 < place →
    text ++ hex place n ≡ whole → more ≡ text ++ hex_digit (place - 1) n ∷ [] → more ++ hex (place - 1) n ≡ whole
push_digit text more whole place n h all pushed =
    rw (pushed, append_assoc) (ap (λ digits. text ++ digits) (sym (hex_down place n h)) ∙ all)

-- a number of fewer than eight digits has room for one more
pub one_more_digit : (count n : ℕ) → count < 8 → n < 16 ^ count → n * 16 + 15 < 2 ^ 32
one_more_digit count n short small =
    let within : count ≤ 7 = omega arith in
    let bound : 16 ^ count ≤ 16 ^ 7 = pow-le-pow_right {n = 16} (lit< tt) {i = count} {j = 7} within in
    omega (arith, bound)
