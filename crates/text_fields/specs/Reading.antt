-- How the fields of a text are read: for each kind of field, what its reader answers on every text.

use Rattle.std.specs.Prelude.{ℕ, ◌+◌, ◌-◌, ◌*◌, Bool, ◌&&◌, ◌||◌, not, if◌then◌else◌, nat_lt}
use Rattle.std.specs.Prelude.{nat_le, ◌==◌, zero, suc, List, [], ◌∷◌, length, drop, slice_index}
use Rattle.std.specs.Prelude.{Option, None, Some, Result, Ok, Err, ℤ, pos, negsuc}
use Rattle.std.specs.{Char.is_ascii_digit, List.list_all}
use Rattle.text_fields.specs.{declared.read.FieldError.FieldError}
use Rattle.text_fields.specs.{declared.read.FieldError.TheVariants.Misspelled}
use Rattle.text_fields.specs.{declared.read.FieldError.TheVariants.OutOfRange}

-- the number that decimal digits write, after those of n
abbrev pub decimal_after : ℕ → List ℕ → ℕ
decimal_after n [] = n
decimal_after n (c ∷ cs) = decimal_after (n * 10 + (c - 48)) cs

-- digits alone, one or more, and no zero before others
abbrev pub is_number : List ℕ → Bool
is_number text = nat_lt 0 (length text) && (length text == 1 || not (slice_index text 0 == 48))
    && list_all is_ascii_digit text

-- a decimal number of at most `max`
unfoldable pub decimal_field : ℕ → List ℕ → Result ℕ FieldError
decimal_field max text =
    if is_number text
    then (if nat_le (decimal_after 0 text) max then Ok (decimal_after 0 text)
    else Err OutOfRange)
    else Err Misspelled

-- the number below 0 whose digits were read; there is no `-0`
abbrev pub negated : Result ℕ FieldError → Result ℤ FieldError
negated (Ok zero) = Err Misspelled
negated (Ok (suc n)) = Ok (negsuc n)
negated (Err error) = Err error

-- the number whose digits were read
abbrev pub not_negated : Result ℕ FieldError → Result ℤ FieldError
not_negated (Ok n) = Ok (pos n)
not_negated (Err error) = Err error

-- a decimal number from -bound to bound - 1, as a two's complement of some bits has them
unfoldable pub signed_field : ℕ → List ℕ → Result ℤ FieldError
signed_field bound text =
    if slice_index text 0 == 45 then negated (decimal_field bound (drop 1 text))
    else not_negated (decimal_field (bound - 1) text)

-- '0' to '9' and 'a' to 'f'
abbrev pub is_hex_digit : ℕ → Bool
is_hex_digit c = is_ascii_digit c || (nat_le 97 c && nat_le c 102)

-- the number that one of them stands for
abbrev pub hex_digit_value : ℕ → ℕ
hex_digit_value c = if nat_lt c 58 then c - 48 else c - 87

-- the number that hexadecimal digits write, after those of n
abbrev pub hex_after : ℕ → List ℕ → ℕ
hex_after n [] = n
hex_after n (c ∷ cs) = hex_after (n * 16 + hex_digit_value c) cs

-- a number of exactly `count` hexadecimal digits
unfoldable pub hex_field : ℕ → List ℕ → Result ℕ FieldError
hex_field count text = if length text == count && list_all is_hex_digit text
    then Ok (hex_after 0 text) else Err Misspelled

-- `-`
abbrev pub is_dash : List ℕ → Bool
is_dash text = length text == 1 && slice_index text 0 == 45

abbrev pub some_read : {A : Type 0} → Result A FieldError → Result (Option A) FieldError
some_read (Ok value) = Ok (Some value)
some_read (Err error) = Err error

-- a field as `field` reads it, or no value where there is a dash
unfoldable pub optional_field : {A : Type 0} → (List ℕ → Result A FieldError) → List ℕ
    → Result (Option A) FieldError
optional_field field text = if is_dash text then Ok None else some_read (field text)
