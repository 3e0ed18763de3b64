-- Each field of an event: what is read of it is in range and is spelled so, and it is read back.

use Rattle.std.proofs.Common.{◌≡◌, ℕ, ◌*◌, ◌/◌, ◌||◌, ◌^◌, ◌<◌, ◌≤◌, ◌⊎◌, inl, inr, Bool, true, false, ◌==◌, cond}
use Rattle.std.proofs.Common.{List, [], ◌∷◌, length, Option, None, Some, Result, Ok, Err, refl, ap, arith, lit<}
use Rattle.std.proofs.lemmas.Bool.Decides.{nat_tests}
use Rattle.std.specs.{Char.is_ascii_digit, Fmt.decimal, List.list_all, Prelude.IfSome}
use Rattle.text_fields.specs.{declared.read.FieldError.FieldError, declared.read.FieldError.TheVariants.Misspelled}
use Rattle.text_fields.specs.{Reading.decimal_field, Reading.hex_field, Reading.is_dash, Reading.is_number}
use Rattle.text_fields.specs.{Reading.optional_field}
use Rattle.text_fields.specs.{Spelling.hex, Spelling.optional, Splitting.Lacks}
use Rattle.text_fields.proofs.{DecimalLaws.decimal_field-decimal, DecimalLaws.decimal_field_only, HexLaws.hex_field-hex}
use Rattle.text_fields.proofs.{HexLaws.hex_field_only, LacksLaws.Lacks-from_all, LacksLaws.Lacks-hex}
use Rattle.text_fields.proofs.OptionalLaws.{hex_no_dash, optional_field-optional, optional_field_only}
use Rattle.text_fields.proofs.OptionalLaws.{optional_decimal-back, optional_decimal-only, optional_hex-back}
use Rattle.text_fields.proofs.OptionalLaws.{optional_hex-only}
use Rattle.events.specs.{declared.effect.Next.Next, declared.effect.Next.TheVariants.Pc, Width.IsWidth}
use Rattle.events.specs.{declared.effect.Next.TheVariants.Ended, declared.effect.Next.TheVariants.Stopped}
use Rattle.events.specs.{Range.IsNext, Range.IsWord}
use Rattle.event_text.specs.Line.{next_text}
use Rattle.event_text.specs.Reading.{◌>>=◌, cause_read, ended_of, next_field, pc_field, sized_field, stopped_of}
use Rattle.event_text.proofs.LineFields.{next_lacks, optional_hex_lacks, space}
use Rattle.event_text.proofs.Sequences.{bind_only, IsField}

-- decimal numbers
by_test : (b : Bool) (r : Result ℕ FieldError) (text : List ℕ) (n : ℕ) → is_number text ≡ b
    → cond b r (Err Misspelled) ≡ Ok n → is_number text ≡ true
by_test true r text n is read = is
by_test false r text n is read = cc

number_digits : (max n : ℕ) (text : List ℕ) → decimal_field max text ≡ Ok n → list_all is_ascii_digit text ≡ true
unfolding decimal_field
number_digits max n text read =
    let number = by_test (is_number text) _ text n refl read in
    grind (arith, nat_tests, number)

digits_lack : (text : List ℕ) → list_all is_ascii_digit text ≡ true → Lacks 32 text
digits_lack text digits = Lacks-from_all is_ascii_digit 32 text refl digits

optional_lacks : (text : List ℕ) (o : Option ℕ)
    → IfSome o (λ n. list_all is_ascii_digit text ≡ true) × (text ≡ optional (λ n. text) o) → Lacks 32 text
optional_lacks text None is = rw is.1 refl
optional_lacks text (Some n) is = digits_lack text is.0

module _ {Small : Type 0} (max : ℕ) (below : Small → max < 2 ^ 32) where
  pub number : IsField Small (decimal_field max) decimal (λ n. n ≤ max)
  unfolding decimal_field
  number = record {
    only = λ small n text is. decimal_field_only max n text (omega (arith, below small)) is;
    back = λ small n within. decimal_field-decimal max n within (omega (arith, below small));
    lacks = λ n text is. digits_lack text (number_digits max n text is);
    some = λ n is. cc is;
  }

  pub optional_number : IsField Small (optional_field (decimal_field max)) (optional decimal)
      (λ o. IfSome o (λ n. n ≤ max))
  unfolding decimal_field optional_field
  optional_number = record {
    only = λ small o text is. optional_decimal-only max o text (omega (arith, below small)) is;
    back = λ small o within. optional_decimal-back max o (omega (arith, below small)) within;
    lacks = λ o text is. optional_lacks text o
        (optional_field_only (decimal_field max) (λ n. text) (λ n. list_all is_ascii_digit text ≡ true) text o
        (λ n read. (number_digits max n text read, refl)) is);
    some = λ o is. cc is;
  }

-- hexadecimal ones
pub word : {Small : Type 0} → IsField Small (hex_field 8) (hex 8) IsWord
unfolding hex_field
word = record {
  only = λ small n text is. hex_field_only 8 n text is;
  back = λ small n within. hex_field-hex 8 n within;
  lacks = λ n text is. rw (hex_field_only 8 n text is).1 (Lacks-hex 32 8 n refl);
  some = λ n is. cc is;
}

pub optional_word : {Small : Type 0}
    → IsField Small (optional_field (hex_field 8)) (optional (hex 8)) (λ o. IfSome o IsWord)
unfolding hex_field optional_field
optional_word = record {
  only = λ small o text is. optional_hex-only 8 o text is;
  back = λ small o within. optional_hex-back 8 o within;
  lacks = λ o text is. rw (optional_hex-only 8 o text is).1 (optional_hex_lacks 32 space 8 o);
  some = λ o is. cc is;
}

pub optional_byte : {Small : Type 0}
    → IsField Small (optional_field (hex_field 2)) (optional (hex 2)) (λ o. IfSome o (λ byte. byte < 256))
unfolding hex_field optional_field
optional_byte = record {
  only = λ small o text is. optional_hex-only 2 o text is;
  back = λ small o within. optional_hex-back 2 o within;
  lacks = λ o text is. rw (optional_hex-only 2 o text is).1 (optional_hex_lacks 32 space 2 o);
  some = λ o is. cc is;
}

-- what comes next, after its letter
pc_only : (n : Next) (digits : List ℕ) → pc_field digits ≡ Ok n → IsNext n × (112 ∷ digits ≡ next_text n)
unfolding pc_field
pc_only n digits read =
    let pc = bind_only (hex_field 8 digits) _ n read in
    let is : Pc pc.0 ≡ n = cc (pc.2) in
    let only = hex_field_only 8 pc.0 digits pc.1 in
    rw (← is) (only.0, ap (λ text. 112 ∷ text) only.1)

ended_only : (n : Next) (digits : List ℕ) → ended_of digits ≡ Ok n → IsNext n × (101 ∷ digits ≡ next_text n)
unfolding ended_of
ended_only n digits read =
    let status = bind_only (hex_field 8 digits) _ n read in
    let is : Ended status.0 ≡ n = cc (status.2) in
    let only = hex_field_only 8 status.0 digits status.1 in
    rw (← is) (only.0, ap (λ text. 101 ∷ text) only.1)

cause_only : (r : Result ℕ FieldError) (n : Next) → cause_read r ≡ Ok n
    → (cause : ℕ) × (r ≡ Ok cause) × (Stopped cause ≡ n)
cause_only (Ok cause) n read = (cause, refl, cc)
cause_only (Err error) n read = cc

stopped_only : (n : Next) (digits : List ℕ) → stopped_of digits ≡ Ok n → IsNext n × (115 ∷ digits ≡ next_text n)
unfolding stopped_of
stopped_only n digits read =
    let cause = cause_only (decimal_field 8 digits) n read in
    let only = decimal_field_only 8 cause.0 digits (lit< tt) cause.1 in
    rw (← cause.2) (only.0, ap (λ text. 115 ∷ text) only.1)

by_letter : (p e s : Bool) (c : ℕ) (digits : List ℕ) (n : Next) → (c == 112) ≡ p → (c == 101) ≡ e → (c == 115) ≡ s →
    cond p (pc_field digits) (cond e (ended_of digits) (cond s (stopped_of digits) (Err Misspelled))) ≡ Ok n →
    IsNext n × (c ∷ digits ≡ next_text n)
by_letter true e s c digits n is_p is_e is_s read =
    let letter : c ≡ 112 = grind (arith, nat_tests) in
    rw letter (pc_only n digits read)
by_letter false true s c digits n is_p is_e is_s read =
    let letter : c ≡ 101 = grind (arith, nat_tests) in
    rw letter (ended_only n digits read)
by_letter false false true c digits n is_p is_e is_s read =
    let letter : c ≡ 115 = grind (arith, nat_tests) in
    rw letter (stopped_only n digits read)
by_letter false false false c digits n is_p is_e is_s read = cc

next_only : (n : Next) (text : List ℕ) → next_field text ≡ Ok n → IsNext n × (text ≡ next_text n)
unfolding next_field
next_only n [] read = cc
next_only n (c ∷ digits) read = by_letter (c == 112) (c == 101) (c == 115) c digits n refl refl refl read

next_back : (n : Next) → IsNext n → next_field (next_text n) ≡ Ok n
unfolding next_field pc_field ended_of stopped_of
next_back (Pc pc) within = rw hex_field-hex refl
next_back (Ended status) within = rw hex_field-hex refl
next_back (Stopped cause) within = rw (decimal_field-decimal 8 cause within (lit< tt)) refl

pub next : {Small : Type 0} → IsField Small next_field next_text IsNext
unfolding next_field
next = record {
  only = λ small n text is. next_only n text is;
  back = λ small n within. next_back n within;
  lacks = λ n text is. let only = next_only n text is in rw only.1 (next_lacks 32 space n only.0);
  some = λ n is. cc is;
}

-- a number of 1, 2 or 4 bytes
abbrev pub IsSized : ℕ × ℕ → Type 0
IsSized number = IsWidth number.0 × (number.1 < 2 ^ (8 * number.0))

abbrev pub sized_text : ℕ × ℕ → List ℕ
sized_text number = hex (2 * number.0) number.1

by_digits : (count datum : ℕ) (text : List ℕ) → (count ≡ 2) ⊎ (count ≡ 4) ⊎ (count ≡ 8) → datum < 16 ^ count
    → text ≡ hex count datum →
    IsSized (count / 2, datum) × (text ≡ sized_text (count / 2, datum))
by_digits count datum text (inl is) small spelled = rw is ((inl refl, rw is at small), rw is at spelled)
by_digits count datum text (inr (inl is)) small spelled = rw is ((inr (inl refl), rw is at small), rw is at spelled)
by_digits count datum text (inr (inr is)) small spelled = rw is ((inr (inr refl), rw is at small), rw is at spelled)

by_length : (b : Bool) (number : ℕ × ℕ) (text : List ℕ)
    → ((length text == 2 || length text == 4) || length text == 8) ≡ b →
    cond b (hex_field (length text) text >>= λ datum. Ok (length text / 2, datum)) (Err Misspelled) ≡ Ok number →
    IsSized number × (text ≡ sized_text number)
by_length true number text is read =
    let datum = bind_only (hex_field (length text) text) _ number read in
    let same : (length text / 2, datum.0) ≡ number = cc (datum.2) in
    let only = hex_field_only (length text) datum.0 text datum.1 in
    let count : (length text ≡ 2) ⊎ (length text ≡ 4) ⊎ (length text ≡ 8) = grind (arith, nat_tests) in
    rw (← same) (by_digits (length text) datum.0 text count only.0 only.1)
by_length false number text is read = cc

sized_only : (number : ℕ × ℕ) (text : List ℕ) → sized_field text ≡ Ok number
    → IsSized number × (text ≡ sized_text number)
unfolding sized_field
sized_only number text read =
    by_length ((length text == 2 || length text == 4) || length text == 8) number text refl read

optional_sized_only : (o : Option (ℕ × ℕ)) (text : List ℕ) → optional_field sized_field text ≡ Ok o →
    IfSome o IsSized × (text ≡ optional sized_text o)
optional_sized_only o text read =
    optional_field_only sized_field sized_text IsSized text o (λ number is. sized_only number text is) read

one_back : (datum : ℕ) → datum < 2 ^ 8 → sized_field (hex 2 datum) ≡ Ok (1, datum)
unfolding sized_field
one_back datum small = rw (hex_field-hex 2 datum small) refl

two_back : (datum : ℕ) → datum < 2 ^ 16 → sized_field (hex 4 datum) ≡ Ok (2, datum)
unfolding sized_field
two_back datum small = rw (hex_field-hex 4 datum small) refl

four_back : (datum : ℕ) → datum < 2 ^ 32 → sized_field (hex 8 datum) ≡ Ok (4, datum)
unfolding sized_field
four_back datum small = rw (hex_field-hex 8 datum small) refl

sized_back : (n datum : ℕ) → (n ≡ 1) ⊎ (n ≡ 2) ⊎ (n ≡ 4) → datum < 2 ^ (8 * n)
    → sized_field (hex (2 * n) datum) ≡ Ok (n, datum)
sized_back n datum (inl is) small = rw is (one_back datum (rw is at small))
sized_back n datum (inr (inl is)) small = rw is (two_back datum (rw is at small))
sized_back n datum (inr (inr is)) small = rw is (four_back datum (rw is at small))

sized_no_dash : (o : Option (ℕ × ℕ)) → IfSome o (λ number. is_dash (sized_text number) ≡ false)
sized_no_dash None = tt
sized_no_dash (Some number) = hex_no_dash (2 * number.0) number.1

sized_read : (o : Option (ℕ × ℕ)) → IfSome o IsSized → IfSome o (λ number. sized_field (sized_text number) ≡ Ok number)
sized_read None within = tt
sized_read (Some number) within = sized_back number.0 number.1 within.0 within.1

sized_lacks : (o : Option (ℕ × ℕ)) → Lacks 32 (optional sized_text o)
sized_lacks None = refl
sized_lacks (Some number) = Lacks-hex 32 (2 * number.0) number.1 refl

pub optional_sized : {Small : Type 0}
    → IsField Small (optional_field sized_field) (optional sized_text) (λ o. IfSome o IsSized)
unfolding optional_field sized_field
optional_sized = record {
  only = λ small o text is. optional_sized_only o text is;
  back = λ small o within. optional_field-optional sized_field sized_text o (sized_no_dash o) (sized_read o within);
  lacks = λ o text is. rw (optional_sized_only o text is).1 (sized_lacks o);
  some = λ o is. cc is;
}
