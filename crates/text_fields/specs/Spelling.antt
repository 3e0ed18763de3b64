-- How the fields of a text are spelled: each function gives the bytes of one. A decimal number is
-- spelled `decimal n` and a signed one `signed_decimal z`, as the standard library prints them.

use Rattle.std.specs.Prelude.{ℕ, ◌+◌, ◌/◌, ◌%◌, ◌^◌, zero, suc, false, List, [], ◌∷◌}
use Rattle.std.specs.Prelude.{Option, None, Some}
use Rattle.std.specs.Fmt.{digit_glyph}

-- the lower-case hexadecimal digit that stands for the sixteens, the 256s or the like of n: place 0
-- is that of the ones
abbrev pub hex_digit : ℕ → ℕ → ℕ
hex_digit place n = digit_glyph false (n / 16 ^ place % 16)

-- the digits of n at the lowest `count` places, the highest place first
abbrev pub hex : ℕ → ℕ → List ℕ
hex zero n = []
hex (suc place) n = hex_digit place n ∷ hex place n

-- what stands for no value: `-`
abbrev pub dash : List ℕ
dash = 45 ∷ []

-- a value in its own spelling, or the dash
abbrev pub optional : {A : Type 0} → (A → List ℕ) → Option A → List ℕ
optional spelling None = dash
optional spelling (Some value) = spelling value

-- the tens and the ones of a number below 100
abbrev pub two_digits : ℕ → List ℕ
two_digits n = (48 + n / 10) ∷ (48 + n % 10) ∷ []
