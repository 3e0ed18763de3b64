-- How a number is spelled in a litmus test: decimal, also with zeros before it, or hexadecimal behind `0x` or `0X`, its
-- digits of either case. [herd reads decimal numbers so, with leading zeros or without]
use Rattle.std.specs.Prelude.{◌≡◌, ◌⊎◌, ℕ, ◌+◌, ◌-◌, ◌*◌, ◌≤◌, ◌==◌, Bool, true, if◌then◌else◌, nat_lt}
use Rattle.std.specs.Prelude.{List, [], ◌∷◌, length, All}
use Rattle.std.specs.Char.{is_ascii_digit, is_ascii_hexdigit}

-- A digit of base 10, or of base 16.
abbrev pub is_digit : ℕ → ℕ → Bool
is_digit base digit = if base == 16 then is_ascii_hexdigit digit else is_ascii_digit digit

-- The number that it stands for.
abbrev pub digit_value : ℕ → ℕ
digit_value digit = if nat_lt digit 58 then digit - 48 else (if nat_lt digit 97 then digit - 55 else digit - 87)

-- The number that digits write, after those of n.
abbrev pub number_after : ℕ → ℕ → List ℕ → ℕ
number_after base n [] = n
number_after base n (digit ∷ digits) = number_after base (n * base + digit_value digit) digits

pub record SpellsDigits (base : ℕ) (digits : List ℕ) (number : ℕ) : Type 0 where
  pub some : 1 ≤ length digits
  pub digits_all : All (λ digit. is_digit base digit ≡ true) digits
  pub value : number ≡ number_after base 0 digits

-- The digits stand behind `0x` or `0X`.
abbrev pub IsHexadecimal : List ℕ → List ℕ → Type 0
IsHexadecimal text digits = (text ≡ 48 ∷ 120 ∷ digits) ⊎ (text ≡ 48 ∷ 88 ∷ digits)

abbrev pub SpellsNumeral : List ℕ → ℕ → Type 0
SpellsNumeral text number = SpellsDigits 10 text number
    ⊎ ((digits : List ℕ) × IsHexadecimal text digits × SpellsDigits 16 digits number)
