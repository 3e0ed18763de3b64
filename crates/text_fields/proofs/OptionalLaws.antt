-- An optional field is read back as what was spelled, and no other text is read as it, where that holds of the field.

use Rattle.std.proofs.Common.{◌≡◌, ℕ, suc, zero, ◌^◌, ◌<◌, ◌≤◌, Bool, true, false, cond, List, [], ◌∷◌, Option, None}
use Rattle.std.proofs.Common.{Some, Result, Ok, Err, refl, ap, arith}
use Rattle.std.proofs.lemmas.Bool.Decides.{nat_tests}
use Rattle.std.specs.{Fmt.decimal, Prelude.IfSome}
use Rattle.text_fields.specs.{declared.read.FieldError.FieldError, Spelling.dash, Spelling.hex, Spelling.optional}
use Rattle.text_fields.specs.Reading.{decimal_field, hex_field, is_dash, optional_field, some_read}
use Rattle.text_fields.proofs.{DecimalLaws.decimal_field-decimal, DecimalLaws.decimal_field_only, HexLaws.hex_digits}
use Rattle.text_fields.proofs.{HexLaws.hex_field-hex, HexLaws.hex_field_only, SignedLaws.decimal_unsigned}

pub optional_field-optional : {A : Type 0} (field : List ℕ → Result A FieldError) (spelling : A → List ℕ) (o : Option A)
    →
    IfSome o (λ value. is_dash (spelling value) ≡ false) → IfSome o (λ value. field (spelling value) ≡ Ok value) →
    optional_field field (optional spelling o) ≡ Ok o
unfolding optional_field
optional_field-optional field spelling None other back = refl
optional_field-optional field spelling (Some value) other back = rw (other, back) refl

dash_only : (text : List ℕ) → is_dash text ≡ true → text ≡ dash
dash_only [] h = cc
dash_only (c ∷ []) h = let is : c ≡ 45 = grind (arith, nat_tests) in ap (λ b. b ∷ []) is
dash_only (c ∷ d ∷ cs) h = absurd (grind (arith, nat_tests))

some_read_only : {A : Type 0} (r : Result A FieldError) (o : Option A) → some_read r ≡ Ok o
    → (value : A) × (r ≡ Ok value) × (o ≡ Some value)
some_read_only (Ok value) o h = (value, refl, cc)
some_read_only (Err e) o h = cc

-- what a test for a dash let through
from_test : {A : Type 0} (none : Bool) (field : List ℕ → Result A FieldError) (spelling : A → List ℕ) (In : A → Type 0)
    (text : List ℕ) (o : Option A) →
    is_dash text ≡ none → ((value : A) → field text ≡ Ok value → In value × (text ≡ spelling value)) →
    cond none (Ok None) (some_read (field text)) ≡ Ok o → IfSome o In × (text ≡ optional spelling o)
from_test true field spelling In text o is only read =
    let none : o ≡ None = cc in
    rw none (tt, dash_only text is)
from_test false field spelling In text o is only read =
    let given = some_read_only (field text) o read in
    rw given.2 (only given.0 given.1)

pub optional_field_only : {A : Type 0} (field : List ℕ → Result A FieldError) (spelling : A → List ℕ) (In : A → Type 0)
    (text : List ℕ) (o : Option A) →
    ((value : A) → field text ≡ Ok value → In value × (text ≡ spelling value)) → optional_field field text ≡ Ok o →
    IfSome o In × (text ≡ optional spelling o)
unfolding optional_field
optional_field_only field spelling In text o only read =
    from_test (is_dash text) field spelling In text o refl only read

-- numbers are no dashes
pub decimal_no_dash : (n : ℕ) → n < 2 ^ 64 → is_dash (decimal n) ≡ false
decimal_no_dash n small = let other = decimal_unsigned n small in grind (arith, nat_tests)

pub hex_no_dash : (count n : ℕ) → is_dash (hex count n) ≡ false
hex_no_dash zero n = refl
hex_no_dash (suc place) n = let digits = hex_digits (suc place) n in grind (arith, nat_tests)

pub optional_decimal-back : (max : ℕ) (o : Option ℕ) → max < 2 ^ 64 → IfSome o (λ n. n ≤ max) →
    optional_field (decimal_field max) (optional decimal o) ≡ Ok o
optional_decimal-back max None small within = optional_field-optional (decimal_field max) decimal None tt tt
optional_decimal-back max (Some n) small within =
    optional_field-optional (decimal_field max) decimal (Some n) (decimal_no_dash n (omega arith))
    (decimal_field-decimal max n within small)

pub optional_decimal-only : (max : ℕ) (o : Option ℕ) (text : List ℕ) → max < 2 ^ 64
    → optional_field (decimal_field max) text ≡ Ok o →
    IfSome o (λ n. n ≤ max) × (text ≡ optional decimal o)
optional_decimal-only max o text small read =
    optional_field_only (decimal_field max) decimal (λ n. n ≤ max) text o
    (λ n is. decimal_field_only max n text small is) read

pub optional_hex-back : (count : ℕ) (o : Option ℕ) → IfSome o (λ n. n < 16 ^ count) →
    optional_field (hex_field count) (optional (hex count) o) ≡ Ok o
optional_hex-back count None within = optional_field-optional (hex_field count) (hex count) None tt tt
optional_hex-back count (Some n) within =
    optional_field-optional (hex_field count) (hex count) (Some n) (hex_no_dash count n) (hex_field-hex count n within)

pub optional_hex-only : (count : ℕ) (o : Option ℕ) (text : List ℕ) → optional_field (hex_field count) text ≡ Ok o →
    IfSome o (λ n. n < 16 ^ count) × (text ≡ optional (hex count) o)
optional_hex-only count o text read =
    optional_field_only (hex_field count) (hex count) (λ n. n < 16 ^ count) text o
    (λ n is. hex_field_only count n text is) read
