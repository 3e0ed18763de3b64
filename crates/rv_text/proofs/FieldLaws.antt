-- Each field of the operands: what is read is spelled so, and what is spelled so is read, whatever follows that isn't a
-- further digit.
use Rattle.std.proofs.Common.{◌≡◌, ℕ, suc, ◌+◌, ◌*◌, ◌^◌, ◌<◌, ◌≤◌, Bool, true, false, not, cond, nat_lt}
use Rattle.std.proofs.Common.{◌==◌, List, [], ◌∷◌, ◌++◌, length, get_or, take, drop, Some, None, Result, Ok, Err, ℤ}
use Rattle.std.proofs.Common.{pos, negsuc, neg_ℤ, refl, sym, ◌∙◌, ap, subst, arith, append_assoc}
use Rattle.std.proofs.Common.{lit<, lit≤}
use Rattle.std.specs.Prelude.{◌≤ℤ◌, ◌<ℤ◌, codes, unwrap_or, position, decimal, unsigned_abs}
use Rattle.std.specs.{Char.is_ascii_digit, Char.is_ascii_hexdigit, Fmt.signed_decimal, List.position_or_len}
use Rattle.std.specs.{List.list_all, Str.bytes_eq}
use Rattle.std.proofs.lemmas.Bool.{lt-ltb, and_parts}
use Rattle.std.proofs.{lemmas.Bool.Decides.nat_tests, lemmas.Fmt.decimal_nonempty, lemmas.Int.ints}
use Rattle.std.proofs.{lemmas.List.take_at, lemmas.List.drop_at}
use Rattle.std.proofs.{lemmas.List.take-append-drop, lemmas.List.Sums.prefix_len-le-length}
use Rattle.std.proofs.{lemmas.Slice.Eq.bytes_eq-Decides}
use Rattle.rv_instr.specs.Table.{IsUpper}
use Rattle.text_fields.specs.{declared.read.FieldError.FieldError, Spelling.hex}
use Rattle.text_fields.specs.Reading.{decimal_field, signed_field, hex_field, is_hex_digit}
use Rattle.text_fields.proofs.{DecimalLaws.decimal_digits, DecimalLaws.decimal_field-decimal}
use Rattle.text_fields.proofs.{DecimalLaws.decimal_field_only, SignedLaws.decimal_unsigned}
use Rattle.text_fields.proofs.{SignedLaws.signed_field-signed_decimal, SignedLaws.signed_field_only, HexLaws.hex_digits}
use Rattle.text_fields.proofs.{HexLaws.hex_field-hex, HexLaws.hex_field_only}
use Rattle.rv_text.specs.{declared.refused.TextRefused.TextRefused}
use Rattle.rv_text.specs.{declared.refused.TextRefused.TheVariants.WrongOperand}
use Rattle.rv_text.specs.{declared.refused.TextRefused.TheVariants.OutOfRange}
use Rattle.rv_text.specs.Spelling.{register_text, signed_text, amount_text, hex_text, upper_of}
use Rattle.rv_text.specs.Reading.{◌>>=◌, Field, with_refusal, digit_count, hex_digit_count, text_after, register_at}
use Rattle.rv_text.specs.Reading.{number_len, signed_at, amount_of, amount_at, hex_at, upper_at}

-- the value of a step that was not refused
pub bind_ok : {A B : Type 0} (r : Result A TextRefused) (f : A → Result B TextRefused) (y : B) → (r >>= f) ≡ Ok y
    → (x : A) × (r ≡ Ok x) × (f x ≡ Ok y)
bind_ok (Ok x) f y e = (x, refl, e)
bind_ok (Err d) f y e = absurd cc

-- a test that let a value through
pub guard_ok : {A : Type 0} (b : Bool) (d : TextRefused) (x y : A) → cond b (Ok x) (Err d) ≡ Ok y → (b ≡ true) × (x ≡ y)
guard_ok true d x y e = (refl, cc)
guard_ok false d x y e = absurd cc

abbrev done : {A : Type 0} → A → Result A TextRefused
done x = Ok x

pub ok_is : {A : Type 0} (x y : A) → done x ≡ done y → x ≡ y
ok_is x y e = cc

with_refusal_ok : {A : Type 0} (r : Result A FieldError) (y : A) → with_refusal r ≡ Ok y → r ≡ Ok y
with_refusal_ok (Ok x) y e = cc
with_refusal_ok (Err d) y e = absurd cc

-- A reader of a field whose values have this spelling. `Ends` is what must be true of the text behind, so that the
-- field ends there.
pub record IsField {A : Type 0} (spelling : A → List ℕ) (Fits : A → Type 0) (Ends : List ℕ → Type 0)
    (reading : Field A) : Type 0 where
  pub takes : (text : List ℕ) (x : A × List ℕ) → reading text ≡ Ok x → (text ≡ spelling x.0 ++ x.1) × Fits x.0
  pub again : (a : A) (rest : List ℕ) → Fits a → Ends rest → reading (spelling a ++ rest) ≡ Ok (a, rest)

-- ---- what stands before a field

pub text_after_takes : (before text rest : List ℕ) → text_after before text ≡ Ok rest → text ≡ before ++ rest
unfolding text_after
text_after_takes before text rest e =
    let g = guard_ok (bytes_eq (take (length before) text) before) WrongOperand (drop (length before) text) rest e in
    let front = (bytes_eq-Decides (take (length before) text) before).0 g.0 in
    sym (take-append-drop (length before) text) ∙ rw (front, g.1) refl

pub text_after_again : (before rest : List ℕ) → text_after before (before ++ rest) ≡ Ok rest
unfolding text_after
text_after_again before rest =
    let same = (bytes_eq-Decides before before).1 refl in
    rw (take_at before rest (length before) refl, same, drop_at before rest (length before) refl) refl

-- ---- digits

-- no further digit begins the text
abbrev pub EndsAt : (ℕ → Bool) → List ℕ → Type 0
EndsAt test rest = position_or_len (λ c. not (test c)) rest ≡ 0

count_of : (ℕ → Bool) → List ℕ → ℕ
count_of test text = unwrap_or (position (λ c. not (test c)) text) (length text)

-- the place of the first that fails the test, by cases of whether there is one
count_is : (b : Bool) (place len : ℕ) → (b ≡ false → place ≡ len) → unwrap_or (cond b (Some place) None) len ≡ place
count_is true place len h = refl
count_is false place len h = sym (h refl)

count_of-place : (test : ℕ → Bool) (text : List ℕ) → count_of test text ≡ position_or_len (λ c. not (test c)) text
unfolding count_of
count_of-place test text =
    let place = position_or_len (λ c. not (test c)) text in
    let within : place ≤ length text = prefix_len-le-length (λ c. not (not (test c))) text in
    count_is (nat_lt place (length text)) place (length text) (λ e. grind (arith, nat_tests))

place-append : (test : ℕ → Bool) (digits rest : List ℕ) → list_all test digits ≡ true → EndsAt test rest →
    position_or_len (λ c. not (test c)) (digits ++ rest) ≡ length digits
place-append test [] rest all ends = ends
place-append test (d ∷ ds) rest all ends =
    let parts = and_parts (test d) (list_all test ds) all in
    rw (parts.0) (ap (λ n. 1 + n) (place-append test ds rest parts.1 ends) ∙ omega arith)

count_of-append : (test : ℕ → Bool) (digits rest : List ℕ) → list_all test digits ≡ true → EndsAt test rest
    → count_of test (digits ++ rest) ≡ length digits
count_of-append test digits rest all ends =
    count_of-place test (digits ++ rest) ∙ place-append test digits rest all ends

digit_count-append : (digits rest : List ℕ) → list_all is_ascii_digit digits ≡ true → EndsAt is_ascii_digit rest
    → digit_count (digits ++ rest) ≡ length digits
unfolding digit_count count_of
digit_count-append digits rest all ends = count_of-append is_ascii_digit digits rest all ends

hex_digit_count-append : (digits rest : List ℕ) → list_all is_ascii_hexdigit digits ≡ true
    → EndsAt is_ascii_hexdigit rest → hex_digit_count (digits ++ rest) ≡ length digits
unfolding hex_digit_count count_of
hex_digit_count-append digits rest all ends = count_of-append is_ascii_hexdigit digits rest all ends

-- what a number spells and what follows, put together again
together : (before text rest spelled : List ℕ) (k : ℕ) → text ≡ before ++ rest → take k rest ≡ spelled
    → text ≡ (before ++ spelled) ++ drop k rest
together before text rest spelled k whole front =
    whole ∙ ap (λ (t : List ℕ). before ++ t) (sym (take-append-drop k rest))
    ∙ rw front (sym (append_assoc before spelled (drop k rest)))

-- ---- registers

register_takes : (before text : List ℕ) (x : ℕ × List ℕ) → register_at before text ≡ Ok x
    → (text ≡ register_text before x.0 ++ x.1) × (x.0 < 32)
unfolding register_at register_text
register_takes before text x e =
    let a =
    bind_ok (text_after before text) (λ rest. with_refusal (decimal_field 31 (take (digit_count rest) rest))
    >>= λ number. Ok (number, drop (digit_count rest) rest)) x e in
    let b = bind_ok (with_refusal (decimal_field 31 (take (digit_count a.0) a.0)))
    (λ number. Ok (number, drop (digit_count a.0) a.0)) x a.2 in
    let only = decimal_field_only 31 b.0 (take (digit_count a.0) a.0) (lit< tt) (with_refusal_ok _ b.0 b.1) in
    let made : ℕ × List ℕ = (b.0, drop (digit_count a.0) a.0) in
    subst (λ (y : ℕ × List ℕ). (text ≡ (before ++ decimal y.0) ++ y.1) × (y.0 < 32)) (ok_is made x b.2) (
      together before text a.0 (decimal b.0) (digit_count a.0) (text_after_takes before text a.0 a.1) only.1,
      omega (arith, only.0),
    )

register_again : (before : List ℕ) (n : ℕ) (rest : List ℕ) → n < 32 → EndsAt is_ascii_digit rest
    → register_at before (register_text before n ++ rest) ≡ Ok (n, rest)
unfolding register_at register_text
register_again before n rest low ends =
    let small : n < 2 ^ 64 = omega arith in
    let count = digit_count-append (decimal n) rest (decimal_digits n small) ends in
    let back = decimal_field-decimal 31 n (omega arith) (lit< tt) in
    rw (
      append_assoc before (decimal n) rest,
      text_after_again before (decimal n ++ rest),
      count,
      take_at (decimal n) rest (length (decimal n)) refl,
      drop_at (decimal n) rest (length (decimal n)) refl,
      back,
    ) refl

pub register_is : (before : List ℕ)
    → IsField (register_text before) (λ n. n < 32) (EndsAt is_ascii_digit) (register_at before)
register_is before = record { takes = register_takes before; again = register_again before }

-- ---- signed numbers

first_append : (xs rest : List ℕ) → 0 < length xs → get_or (xs ++ rest) 0 0 ≡ get_or xs 0 0
first_append [] rest some = absurd (omega arith)
first_append (x ∷ xs) rest some = refl

number_len-signed : (z : ℤ) (rest : List ℕ) → unsigned_abs z < 2 ^ 64 → EndsAt is_ascii_digit rest
    → number_len (signed_decimal z ++ rest) ≡ length (signed_decimal z)
unfolding number_len
number_len-signed (pos n) rest small ends =
    let first = first_append (decimal n) rest (decimal_nonempty n small) in
    let plain : (get_or (decimal n ++ rest) 0 0 == 45) ≡ false = rw first (decimal_unsigned n small) in
    let count = digit_count-append (decimal n) rest (decimal_digits n small) ends in
    rw plain (omega (arith, count))
number_len-signed (negsuc n) rest small ends =
    let count = digit_count-append (decimal (suc n)) rest (decimal_digits (suc n) small) ends in
    omega (arith, count)

signed_takes : (bound : ℕ) → 1 ≤ bound → bound < 2 ^ 64 → (text : List ℕ) (x : ℤ × List ℕ)
    → signed_at bound text ≡ Ok x →
    (text ≡ signed_text x.0 ++ x.1) × ((neg_ℤ (pos bound) ≤ℤ x.0) × (x.0 <ℤ pos bound))
unfolding signed_at signed_text
signed_takes bound some small text x e =
    let a =
    bind_ok (text_after (codes ",") text)
    (λ rest. with_refusal (signed_field bound (take (number_len rest) rest))
    >>= λ number. Ok (number, drop (number_len rest) rest)) x e in
    let b = bind_ok (with_refusal (signed_field bound (take (number_len a.0) a.0)))
    (λ number. Ok (number, drop (number_len a.0) a.0)) x a.2 in
    let only = signed_field_only bound b.0 (take (number_len a.0) a.0) some small (with_refusal_ok _ b.0 b.1) in
    let made : ℤ × List ℕ = (b.0, drop (number_len a.0) a.0) in
    subst (λ (y : ℤ × List ℕ). (text ≡ (codes "," ++ signed_decimal y.0) ++ y.1)
    × ((neg_ℤ (pos bound) ≤ℤ y.0) × (y.0 <ℤ pos bound))) (ok_is made x b.2) (
      together (codes ",") text a.0 (signed_decimal b.0) (number_len a.0)
          (text_after_takes (codes ",") text a.0 a.1) only.2,
      (only.0, only.1),
    )

signed_again : (bound : ℕ) → bound < 2 ^ 64 → (z : ℤ) (rest : List ℕ) → (neg_ℤ (pos bound) ≤ℤ z) × (z <ℤ pos bound)
    → EndsAt is_ascii_digit rest →
    signed_at bound (signed_text z ++ rest) ≡ Ok (z, rest)
unfolding signed_at signed_text
signed_again bound small z rest (low, high) ends =
    let within : unsigned_abs z < 2 ^ 64 = grind (arith, ints) in
    let count = number_len-signed z rest within ends in
    let back = signed_field-signed_decimal bound z small low high in
    rw (
      text_after_again (codes ",") (signed_decimal z ++ rest),
      count,
      take_at (signed_decimal z) rest (length (signed_decimal z)) refl,
      drop_at (signed_decimal z) rest (length (signed_decimal z)) refl,
      back,
    ) refl

pub signed_is : (bound : ℕ) → 1 ≤ bound → bound < 2 ^ 64
    → IsField signed_text (λ z. (neg_ℤ (pos bound) ≤ℤ z) × (z <ℤ pos bound)) (EndsAt is_ascii_digit) (signed_at bound)
signed_is bound some small = record { takes = signed_takes bound some small; again = signed_again bound small }

-- ---- the amount of a shift

amount_only : (z : ℤ) (n : ℕ) → amount_of z ≡ Ok n → (z ≡ pos n) × (n < 32)
amount_only (pos m) n e =
    let g = guard_ok (nat_lt m 32) OutOfRange m n e in
    (ap pos g.1, grind (arith, nat_tests, g.0, g.1))
amount_only (negsuc m) n e = absurd cc

amount_takes : (text : List ℕ) (x : ℕ × List ℕ) → amount_at text ≡ Ok x → (text ≡ amount_text x.0 ++ x.1) × (x.0 < 32)
unfolding amount_at amount_text signed_text
amount_takes text x e =
    let a = bind_ok (signed_at (2 ^ 31) text) (λ number. amount_of number.0 >>= λ amount. Ok (amount, number.1)) x e in
    let b = bind_ok (amount_of a.0.0) (λ amount. Ok (amount, a.0.1)) x a.2 in
    let taken = (signed_is (2 ^ 31) (lit≤ tt) (lit< tt)).takes text a.0 a.1 in
    let number = amount_only a.0.0 b.0 b.1 in
    let made : ℕ × List ℕ = (b.0, a.0.1) in
    let spelled : text ≡ signed_text (pos b.0) ++ a.0.1 = taken.0 ∙ ap (λ (z : ℤ). signed_text z ++ a.0.1) number.0 in
    subst (λ (y : ℕ × List ℕ). (text ≡ (codes "," ++ decimal y.0) ++ y.1) × (y.0 < 32)) (ok_is made x b.2)
    (spelled, number.1)

amount_again : (n : ℕ) (rest : List ℕ) → n < 32 → EndsAt is_ascii_digit rest
    → amount_at (amount_text n ++ rest) ≡ Ok (n, rest)
unfolding amount_at amount_text signed_text
amount_again n rest low ends =
    let back =
    (signed_is (2 ^ 31) (lit≤ tt) (lit< tt)).again (pos n) rest (omega (arith, ints), omega (arith, ints)) ends in
    rw (back, lt-ltb n 32 low) refl

pub amount_is : IsField amount_text (λ n. n < 32) (EndsAt is_ascii_digit) amount_at
amount_is = record { takes = amount_takes; again = amount_again }

-- ---- hexadecimal numbers

hex_digit_either_case : (c : ℕ) → is_hex_digit c ≡ true → is_ascii_hexdigit c ≡ true
hex_digit_either_case c digit = grind (arith, nat_tests)

hex_digits_either_case : (digits : List ℕ) → list_all is_hex_digit digits ≡ true
    → list_all is_ascii_hexdigit digits ≡ true
hex_digits_either_case [] all = refl
hex_digits_either_case (c ∷ cs) all =
    let parts = and_parts (is_hex_digit c) (list_all is_hex_digit cs) all in
    rw (hex_digit_either_case c parts.0) (hex_digits_either_case cs parts.1)

hex_takes : (count : ℕ) (text : List ℕ) (x : ℕ × List ℕ) → hex_at count text ≡ Ok x
    → (text ≡ hex_text count x.0 ++ x.1) × (x.0 < 16 ^ count)
unfolding hex_at hex_text
hex_takes count text x e =
    let a =
    bind_ok (text_after (codes ",0x") text)
    (λ rest. with_refusal (hex_field count (take (hex_digit_count rest) rest))
    >>= λ number. Ok (number, drop (hex_digit_count rest) rest)) x e in
    let b = bind_ok (with_refusal (hex_field count (take (hex_digit_count a.0) a.0)))
    (λ number. Ok (number, drop (hex_digit_count a.0) a.0)) x a.2 in
    let only = hex_field_only count b.0 (take (hex_digit_count a.0) a.0) (with_refusal_ok _ b.0 b.1) in
    let made : ℕ × List ℕ = (b.0, drop (hex_digit_count a.0) a.0) in
    subst (λ (y : ℕ × List ℕ). (text ≡ (codes ",0x" ++ hex count y.0) ++ y.1) × (y.0 < 16 ^ count)) (ok_is made x b.2) (
      together (codes ",0x") text a.0 (hex count b.0) (hex_digit_count a.0)
          (text_after_takes (codes ",0x") text a.0 a.1) only.1,
      only.0,
    )

hex_again : (count n : ℕ) (rest : List ℕ) → n < 16 ^ count → EndsAt is_ascii_hexdigit rest
    → hex_at count (hex_text count n ++ rest) ≡ Ok (n, rest)
unfolding hex_at hex_text
hex_again count n rest low ends =
    let counted =
    hex_digit_count-append (hex count n) rest (hex_digits_either_case (hex count n) (hex_digits count n)) ends in
    rw (
      text_after_again (codes ",0x") (hex count n ++ rest),
      counted,
      take_at (hex count n) rest (length (hex count n)) refl,
      drop_at (hex count n) rest (length (hex count n)) refl,
      hex_field-hex count n low,
    ) refl

pub hex_is : (count : ℕ) → IsField (hex_text count) (λ n. n < 16 ^ count) (EndsAt is_ascii_hexdigit) (hex_at count)
hex_is count = record { takes = hex_takes count; again = hex_again count }

-- ---- the upper part of a word

upper_takes : (text : List ℕ) (x : ℕ × List ℕ) → upper_at text ≡ Ok x
    → (text ≡ hex_text 5 (upper_of x.0) ++ x.1) × (IsUpper x.0 × (x.0 < 2 ^ 32))
unfolding upper_at
upper_takes text x e =
    let a = bind_ok (hex_at 5 text) (λ number. Ok (number.0 * 2 ^ 12, number.1)) x e in
    let taken = (hex_is 5).takes text a.0 a.1 in
    let low : a.0.0 < 16 ^ 5 = taken.1 in
    let same : upper_of (a.0.0 * 2 ^ 12) ≡ a.0.0 = omega arith in
    let made : ℕ × List ℕ = (a.0.0 * 2 ^ 12, a.0.1) in
    let spelled : text ≡ hex_text 5 (upper_of (a.0.0 * 2 ^ 12)) ++ a.0.1 =
    taken.0 ∙ ap (λ (n : ℕ). hex_text 5 n ++ a.0.1) (sym same) in
    subst (λ (y : ℕ × List ℕ). (text ≡ hex_text 5 (upper_of y.0) ++ y.1) × (IsUpper y.0 × (y.0 < 2 ^ 32)))
    (ok_is made x a.2)
    (spelled, (omega arith, omega arith))

upper_again : (imm : ℕ) (rest : List ℕ) → IsUpper imm × (imm < 2 ^ 32) → EndsAt is_ascii_hexdigit rest
    → upper_at (hex_text 5 (upper_of imm) ++ rest) ≡ Ok (imm, rest)
unfolding upper_at
upper_again imm rest (even, low) ends =
    let small : upper_of imm < 16 ^ 5 = omega arith in
    let same : upper_of imm * 2 ^ 12 ≡ imm = omega arith in
    rw ((hex_is 5).again (upper_of imm) rest small ends) (ap (λ (n : ℕ). done (n, rest)) same)

pub upper_is : IsField (λ imm. hex_text 5 (upper_of imm)) (λ imm. IsUpper imm × (imm < 2 ^ 32))
    (EndsAt is_ascii_hexdigit) upper_at
upper_is = record { takes = upper_takes; again = upper_again }
