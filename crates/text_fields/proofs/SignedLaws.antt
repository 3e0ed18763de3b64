-- A signed decimal field is read back as the number that was spelled, and no other text is read as it.

use Rattle.std.proofs.Common.{◌≡◌, ℕ, suc, zero, ◌-◌, ◌^◌, ◌<◌, ◌≤◌, Bool, true, false, cond, ◌==◌, List, [], ◌∷◌}
use Rattle.std.proofs.Common.{get_or, Result, Ok, Err, ℤ, pos, negsuc, neg_ℤ, refl, ap, arith}
use Rattle.std.proofs.{lemmas.Bool.Decides.nat_tests, lemmas.Fmt.decimal_nonempty, lemmas.Int.ints}
use Rattle.std.proofs.{lemmas.Str.Parse.not_in_digits}
use Rattle.std.specs.Fmt.{decimal, signed_decimal}
use Rattle.std.specs.Prelude.{◌≤ℤ◌, ◌<ℤ◌}
use Rattle.text_fields.specs.declared.read.FieldError.{FieldError}
use Rattle.text_fields.specs.Reading.{decimal_field, negated, not_negated, signed_field}
use Rattle.text_fields.proofs.DecimalLaws.{decimal_digits, decimal_field-decimal, decimal_field_only, numerals}

-- a decimal number does not begin with a minus sign
pub decimal_unsigned : (n : ℕ) → n < 2 ^ 64 → (get_or (decimal n) 0 0 == 45) ≡ false
decimal_unsigned n small =
    let other = not_in_digits numerals (decimal n) 45 (decimal_digits n small) (λ (low, high). omega arith) 0
    (decimal_nonempty n small) in
    grind (arith, nat_tests, other)

pub signed_field-signed_decimal : (bound : ℕ) (z : ℤ) → bound < 2 ^ 64 → neg_ℤ (pos bound) ≤ℤ z → z <ℤ pos bound →
    signed_field bound (signed_decimal z) ≡ Ok z
unfolding signed_field
signed_field-signed_decimal bound (pos n) small low high =
    let below : n ≤ bound - 1 = omega (arith, ints) in
    let fits : n < 2 ^ 64 = omega arith in
    rw (decimal_unsigned n fits, decimal_field-decimal (bound - 1) n below (omega arith)) refl
signed_field-signed_decimal bound (negsuc n) small low high =
    let below : suc n ≤ bound = omega (arith, ints) in
    rw (decimal_field-decimal bound (suc n) below small) refl

-- which number was read, where one was negated, or not
negated_only : (r : Result ℕ FieldError) (z : ℤ) → negated r ≡ Ok z → (n : ℕ) × (r ≡ Ok (suc n)) × (z ≡ negsuc n)
negated_only (Ok zero) z h = cc
negated_only (Ok (suc n)) z h = (n, refl, cc)
negated_only (Err e) z h = cc

not_negated_only : (r : Result ℕ FieldError) (z : ℤ) → not_negated r ≡ Ok z → (n : ℕ) × (r ≡ Ok n) × (z ≡ pos n)
not_negated_only (Ok n) z h = (n, refl, cc)
not_negated_only (Err e) z h = cc

-- z is from -bound to bound - 1, and text is its spelling
record Spells (bound : ℕ) (z : ℤ) (text : List ℕ) : Type 0 where
  low : neg_ℤ (pos bound) ≤ℤ z
  high : z <ℤ pos bound
  spelled : text ≡ signed_decimal z

from_negated : (bound n : ℕ) (z : ℤ) (cs : List ℕ) → bound < 2 ^ 64 → decimal_field bound cs ≡ Ok (suc n) → z ≡ negsuc n
    → Spells bound z (45 ∷ cs)
from_negated bound n z cs small read is =
    let number = decimal_field_only bound (suc n) cs small read in
    let within : suc n ≤ bound = number.0 in
    record {
      low = rw is (omega (arith, ints, within));
      high = rw is (omega (arith, ints));
      spelled = rw is (ap (λ digits. 45 ∷ digits) number.1);
    }

from_plain : (bound n : ℕ) (z : ℤ) (text : List ℕ) → 1 ≤ bound → bound < 2 ^ 64 → decimal_field (bound - 1) text ≡ Ok n
    → z ≡ pos n → Spells bound z text
from_plain bound n z text some small read is =
    let number = decimal_field_only (bound - 1) n text (omega arith) read in
    let within : n ≤ bound - 1 = number.0 in
    record {
      low = rw is (omega (arith, ints));
      high = rw is (omega (arith, ints, within));
      spelled = rw is number.1;
    }

-- by the first byte
from_first : (minus : Bool) (bound : ℕ) (z : ℤ) (c : ℕ) (cs : List ℕ) → 1 ≤ bound → bound < 2 ^ 64 → (c == 45) ≡ minus →
    cond minus (negated (decimal_field bound cs)) (not_negated (decimal_field (bound - 1) (c ∷ cs))) ≡ Ok z
    → Spells bound z (c ∷ cs)
from_first true bound z c cs some small is read =
    let number = negated_only (decimal_field bound cs) z read in
    let first : c ≡ 45 = grind (arith, nat_tests) in
    rw first (from_negated bound number.0 z cs small number.1 number.2)
from_first false bound z c cs some small is read =
    let number = not_negated_only (decimal_field (bound - 1) (c ∷ cs)) z read in
    from_plain bound number.0 z (c ∷ cs) some small number.1 number.2

spells : (bound : ℕ) (z : ℤ) (text : List ℕ) → 1 ≤ bound → bound < 2 ^ 64 → signed_field bound text ≡ Ok z
    → Spells bound z text
unfolding signed_field
spells bound z [] some small read =
    let number = not_negated_only (decimal_field (bound - 1) []) z read in
    from_plain bound number.0 z [] some small number.1 number.2
spells bound z (c ∷ cs) some small read = from_first (c == 45) bound z c cs some small refl read

pub signed_field_only : (bound : ℕ) (z : ℤ) (text : List ℕ) → 1 ≤ bound → bound < 2 ^ 64
    → signed_field bound text ≡ Ok z →
    (neg_ℤ (pos bound) ≤ℤ z) × (z <ℤ pos bound) × (text ≡ signed_decimal z)
signed_field_only bound z text some small read =
    let whole = spells bound z text some small read in
    (whole.low, whole.high, whole.spelled)
