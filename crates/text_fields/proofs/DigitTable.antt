-- The table of what each byte stands for as a hexadecimal digit, and the sum that is made with it.

use Rattle.std.proofs.Common.{◌≡◌, ℕ, zero, suc, ◌+◌, ◌*◌, ◌^◌, ◌<◌, ◌≤◌, Bool, true, false, ◌&&◌, if◌then◌else◌, List, [], ◌∷◌}
use Rattle.std.proofs.Common.{get_or, length, drop, drop-cons, refl, sym, ◌∙◌, ap, arith, lit<}
use Rattle.std.proofs.{Math.Nat.pow-succ', Math.Nat.pow-le-pow_right, Math.Seq.drop-length}
use Rattle.std.proofs.lemmas.Bool.Decides.{nat_tests}
use Rattle.std.specs.List.{list_all}
use Rattle.text_fields.specs.Reading.{hex_after, hex_digit_value, is_hex_digit}
use Rattle.text_fields.specs.declared.read.TheConstants.{DIGITS}
use Rattle.text_fields.proofs.HexLaws.{digits_small}

-- a digit weighs what it stands for, and any other byte more than eight digits can
abbrev pub weight : ℕ → ℕ
weight c = if is_hex_digit c then hex_digit_value c else 4294967296

table : ℕ → ℕ → List ℕ
table zero n = []
table (suc count) n = weight n ∷ table count (n + 1)

table_at : (count n i : ℕ) → i < count → get_or (table count n) i 0 ≡ weight (n + i)
unfolding table
table_at zero n i within = absurd (omega arith)
table_at (suc count) n zero within =
    let same : n ≡ n + 0 = omega arith in
    ap weight same
table_at (suc count) n (suc i) within =
    let same : n + suc i ≡ n + 1 + i = omega arith in
    rw same (table_at count (n + 1) i (omega arith))

is_table : DIGITS ≡ table 256 0
unfolding table
is_table = refl

pub digit_at : (c : ℕ) → c < 256 → get_or DIGITS c 0 ≡ weight c
digit_at c within =
    let same : 0 + c ≡ c = omega arith in
    ap (λ t. get_or t c 0) is_table ∙ table_at 256 0 c within ∙ ap weight same

pub weight_bounded : (c : ℕ) → weight c ≤ 4294967296
weight_bounded c = grind (arith, nat_tests)

-- the sum that bytes make, after those of n
pub weighed : ℕ → List ℕ → ℕ
weighed n [] = n
weighed n (c ∷ cs) = weighed (n * 16 + weight c) cs

weighed-grows : (n : ℕ) (cs : List ℕ) → n ≤ weighed n cs
unfolding weighed
weighed-grows n [] = omega arith
weighed-grows n (c ∷ cs) = omega (arith, weighed-grows (n * 16 + weight c) cs)

weight-digit : (c : ℕ) → is_hex_digit c ≡ true → weight c ≡ hex_digit_value c
weight-digit c digit = rw digit refl

weight-other : (c : ℕ) → is_hex_digit c ≡ false → weight c ≡ 4294967296
weight-other c other = rw other refl

pub digits_weigh : (n : ℕ) (cs : List ℕ) → list_all is_hex_digit cs ≡ true → weighed n cs ≡ hex_after n cs
unfolding weighed
digits_weigh n [] digits = refl
digits_weigh n (c ∷ cs) digits =
    let parts : (is_hex_digit c ≡ true) × (list_all is_hex_digit cs ≡ true) = (grind arith, grind arith) in
    rw (weight-digit c parts.0) (digits_weigh (n * 16 + hex_digit_value c) cs parts.1)

by_first : (b : Bool) (n c : ℕ) (cs : List ℕ) → is_hex_digit c ≡ b → (b && list_all is_hex_digit cs) ≡ false
    → ((m : ℕ) → list_all is_hex_digit cs ≡ false → 4294967296 ≤ weighed m cs)
    → 4294967296 ≤ weighed (n * 16 + weight c) cs
by_first true n c cs is some later = later (n * 16 + weight c) some
by_first false n c cs is some later = omega (arith, weighed-grows (n * 16 + weight c) cs, weight-other c is)

pub others_weigh : (n : ℕ) (cs : List ℕ) → list_all is_hex_digit cs ≡ false → 4294967296 ≤ weighed n cs
unfolding weighed
others_weigh n [] some = absurd (grind (arith, some))
others_weigh n (c ∷ cs) some =
    by_first (is_hex_digit c) n c cs refl some (λ m later. others_weigh m cs later)

-- room for another digit behind fewer than eight
pub sum_bounded : (place sum : ℕ) → place < 8 → 15 * sum + 4294967296 ≤ 4294967296 * 16 ^ place
    → sum * 16 + 4294967296 < 2 ^ 64
sum_bounded place sum short small =
    let within : place ≤ 7 = omega arith in
    let bound : 16 ^ place ≤ 16 ^ 7 = pow-le-pow_right {n = 16} (lit< tt) {i = place} {j = 7} within in
    omega (arith, bound)

pub sum_next : (place sum more : ℕ) → more ≤ 4294967296 → 15 * sum + 4294967296 ≤ 4294967296 * 16 ^ place
    → 15 * (sum * 16 + more) + 4294967296 ≤ 4294967296 * 16 ^ (place + 1)
sum_next place sum more little small =
    let one : place + 1 ≡ suc place = omega arith in
    let next : 16 ^ (place + 1) ≡ 16 * 16 ^ place = rw one (pow-succ' 16 place) in
    omega (arith, next)

pub weighed_next : (sum place : ℕ) (cs : List ℕ) → place < length cs → weighed sum (drop place cs) ≡ weighed 0 cs
    → weighed (sum * 16 + weight (get_or cs place 0)) (drop (place + 1) cs) ≡ weighed 0 cs
unfolding weighed
weighed_next sum place cs inside whole =
    let one : place + 1 ≡ suc place = omega arith in
    let split : drop place cs ≡ get_or cs place 0 ∷ drop (suc place) cs = drop-cons cs place 0 inside in
    rw one (sym (ap (weighed sum) split) ∙ whole)

-- what the sum of up to eight bytes says, once it is whole
pub record Says (sum : ℕ) (cs : List ℕ) : Type 0 where
  pub other : 4294967296 ≤ sum → list_all is_hex_digit cs ≡ false
  pub digits : sum < 4294967296 → list_all is_hex_digit cs ≡ true
  pub value : sum < 4294967296 → sum ≡ hex_after 0 cs

digits_below : (cs : List ℕ) → length cs ≤ 8 → list_all is_hex_digit cs ≡ true → hex_after 0 cs < 4294967296
digits_below cs short digits =
    let bound : 16 ^ length cs ≤ 16 ^ 8 = pow-le-pow_right {n = 16} (lit< tt) {i = length cs} {j = 8} short in
    omega (arith, bound, digits_small cs digits)

by_all : (b : Bool) (sum : ℕ) (cs : List ℕ) → list_all is_hex_digit cs ≡ b → length cs ≤ 8 → sum ≡ weighed 0 cs
    → Says sum cs
by_all true sum cs digits short is =
    let value = is ∙ digits_weigh 0 cs digits in
    let below = digits_below cs short digits in
    record {
      other = λ great. absurd (omega (arith, value, below, great));
      digits = λ little. digits;
      value = λ little. value;
    }
by_all false sum cs other short is =
    let above = others_weigh 0 cs other in
    record {
      other = λ great. other;
      digits = λ little. absurd (omega (arith, is, above, little));
      value = λ little. absurd (omega (arith, is, above, little));
    }

whole_sum : (sum : ℕ) (cs : List ℕ) → weighed sum (drop (length cs) cs) ≡ weighed 0 cs → sum ≡ weighed 0 cs
unfolding weighed
whole_sum sum cs whole = sym (ap (weighed sum) (drop-length cs)) ∙ whole

pub says : (sum place : ℕ) (cs : List ℕ) → place ≡ length cs → length cs ≤ 8
    → weighed sum (drop place cs) ≡ weighed 0 cs → Says sum cs
says sum place cs end short whole =
    by_all (list_all is_hex_digit cs) sum cs refl short
    (whole_sum sum cs (sym (ap (λ p. weighed sum (drop p cs)) end) ∙ whole))
