-- What is watched, read where its text is cut.
use Rattle.std.proofs.Common.{◌≡◌, ◌≢◌, ℕ, ◌-◌, ◌^◌, ◌≤◌, ◌<◌, ◌⊎◌, Bool, true, false, nat_lt, ◌==◌}
use Rattle.std.proofs.Common.{if◌then◌else◌, List, [], ◌∷◌, ◌++◌, length, Ok, Err, inl, inr, refl, sym, ap, subst, ◌∙◌}
use Rattle.std.proofs.Common.{arith, not, Option, Some, None, ◌+◌}
use Rattle.std.specs.{Char.is_ascii_digit, List.list_all}
use Rattle.std.specs.Fmt.{decimal}
use Rattle.text_fields.specs.{Reading.decimal_field, Reading.hex_field, Reading.is_hex_digit, Spelling.hex}
use Rattle.text_fields.specs.Splitting.{field, rest, Lacks}
use Rattle.text_fields.proofs.{DecimalLaws.decimal_field-decimal, DecimalLaws.decimal_field_only}
use Rattle.text_fields.proofs.{HexLaws.hex_field-hex, HexLaws.hex_field_only}
use Rattle.text_fields.proofs.{LacksLaws.Lacks-decimal}
use Rattle.text_fields.proofs.{SplittingLaws.field-cut, SplittingLaws.rest-cut, SplittingLaws.cut_where}
use Rattle.text_fields.proofs.{SplittingLaws.parts_at}
use Rattle.text_fields.proofs.ValueLaws.{no_number}
use Rattle.text_fields.specs.declared.read.FieldError.{FieldError}
use Rattle.rv_text.specs.Registers.{abi_name, x_name, lettered, pointer_name, IsNameOf}
use Rattle.outcome_queries.specs.Watched.{SpellsRegister, SpellsBytes}
use Rattle.watched_outcomes.specs.declared.watch.{WatchedBytes.WatchedBytes, Width.Width}
use Rattle.outcome_queries.specs.Widths.{width_text}
use Rattle.outcome_queries.proofs.Outside.{same_begin}
use Rattle.std.proofs.lemmas.List.{length-append}

-- a byte that stands in no name, no number and no address
pub record IsMark (s : ℕ) : Type 0 where
  pub digit : is_ascii_digit s ≡ false
  pub hex : is_hex_digit s ≡ false
  pub letters : list_all (λ byte. not (byte == s)) (116 ∷ 115 ∷ 97 ∷ 120 ∷ 114 ∷ 112 ∷ 103 ∷ []) ≡ true

pub at_mark : IsMark 64
at_mark = record { digit = refl; hex = refl; letters = refl }

pub equals_mark : IsMark 61
equals_mark = record { digit = refl; hex = refl; letters = refl }

pub quote_mark : IsMark 39
quote_mark = record { digit = refl; hex = refl; letters = refl }

test_lacks : (s : ℕ) (b : Bool) (x y : List ℕ) → Lacks s x → Lacks s y → Lacks s (if b then x else y)
test_lacks s true x y first second = first
test_lacks s false x y first second = second

record Letters (s : ℕ) : Type 0 where
  pub t : (116 == s) ≡ false
  pub sp : (115 == s) ≡ false
  pub a : (97 == s) ≡ false
  pub x : (120 == s) ≡ false
  pub r : (114 == s) ≡ false
  pub p : (112 == s) ≡ false
  pub g : (103 == s) ≡ false

letters_of : (s : ℕ) → IsMark s → Letters s
letters_of s mark = let all = mark.letters in record {
  t = grind arith;
  sp = grind arith;
  a = grind arith;
  x = grind arith;
  r = grind arith;
  p = grind arith;
  g = grind arith;
}

lettered_lacks : (s letter k : ℕ) → IsMark s → (letter == s) ≡ false → k ≤ 31 → Lacks s (lettered letter k)
lettered_lacks s letter k mark other small = rw other (Lacks-decimal s k mark.digit (grind arith))

pointer_lacks : (s r : ℕ) → Letters s → Lacks s (pointer_name r)
unfolding pointer_name
pointer_lacks s r l =
    test_lacks s (r == 1) _ _ (rw (l.r, l.a) refl) (test_lacks s (r == 2) _ _ (rw (l.sp, l.p) refl)
    (test_lacks s (r == 3) _ _ (rw (l.g, l.p) refl) (rw (l.t, l.p) refl)))

abi_lacks : (s r : ℕ) → IsMark s → r ≤ 31 → Lacks s (abi_name r)
unfolding abi_name
abi_lacks s r mark small =
    let l = letters_of s mark in
    test_lacks s (nat_lt r 5) _ _ (pointer_lacks s r l)
    (test_lacks s (nat_lt r 8) _ _ (lettered_lacks s 116 (r - 5) mark l.t (omega arith))
    (test_lacks s (nat_lt r 10) _ _ (lettered_lacks s 115 (r - 8) mark l.sp (omega arith))
    (test_lacks s (nat_lt r 18) _ _ (lettered_lacks s 97 (r - 10) mark l.a (omega arith))
    (test_lacks s (nat_lt r 28) _ _ (lettered_lacks s 115 (r - 16) mark l.sp (omega arith))
    (lettered_lacks s 116 (r - 25) mark l.t (omega arith))))))

pub either_lacks : (s r : ℕ) (name : List ℕ) → IsMark s → r ≤ 31 → (name ≡ abi_name r) ⊎ (name ≡ x_name r)
    → Lacks s name
either_lacks s r name mark small (inl is) = rw is (abi_lacks s r mark small)
either_lacks s r name mark small (inr is) = rw is (lettered_lacks s 120 r mark (letters_of s mark).x small)

-- a number behind a cut
pub number_found : (s max n : ℕ) (text lead others : List ℕ) → lead ≡ field s text → others ≡ rest s text
    → max < 2 ^ 64 → Ok n ≡ decimal_field max others → (n ≤ max) × (text ≡ lead ++ s ∷ decimal n)
number_found s max n text lead others first behind small read =
    let has : decimal_field max (rest s text) ≡ Ok n = rw (← behind) (sym read) in
    let some : rest s text ≢ [] = λ none. no_number max n (rw none at has) in
    let number = decimal_field_only max n (rest s text) small has in
    (number.0, rw first (subst (λ t. text ≡ field s text ++ s ∷ t) number.1 (cut_where s text some)))

pub number_none : (s max n : ℕ) (text lead others : List ℕ) (error : FieldError) → others ≡ rest s text
    → max < 2 ^ 64 → Err error ≡ decimal_field max others → n ≤ max → Lacks s lead
    → text ≡ lead ++ s ∷ decimal n → ⊥
number_none s max n text lead others error behind small read within lacks is =
    let number : decimal_field max others ≡ Ok n =
    rw (behind, (parts_at s text lead (decimal n) is lacks).1) (decimal_field-decimal max n within small) in
    let never : Err error ≡ Ok n = read ∙ number in cc

-- a register at a hart
pub register_is : (text hart : List ℕ) (h r : ℕ) → hart ≡ rest 64 text → IsNameOf r (field 64 text)
    → decimal_field 255 hart ≡ Ok h → SpellsRegister text h r
register_is text hart h r behind named read =
    let has : decimal_field 255 (rest 64 text) ≡ Ok h = rw (← behind) read in
    let some : rest 64 text ≢ [] = λ none. no_number 255 h (rw none at has) in
    let number = decimal_field_only 255 h (rest 64 text) (grind arith) has in
    record {
      name = field 64 text;
      names = named;
      in_range = number.0;
      spelled = subst (λ t. text ≡ field 64 text ++ 64 ∷ t) number.1 (cut_where 64 text some);
    }

pub register_parts : (text : List ℕ) (h r : ℕ) (is : SpellsRegister text h r)
    → (IsNameOf r (field 64 text)) × (decimal_field 255 (rest 64 text) ≡ Ok h)
register_parts text h r is =
    let lacks : Lacks 64 is.name = either_lacks 64 r is.name at_mark is.names.last is.names.name in
    let first : field 64 text ≡ is.name = rw is.spelled (field-cut 64 is.name (decimal h) lacks) in
    let others : rest 64 text ≡ decimal h = rw is.spelled (rest-cut 64 is.name (decimal h) lacks) in
    (rw first is.names, rw others (decimal_field-decimal 255 h is.in_range (grind arith)))

-- the bytes at an address
pub bytes_found : (text before : List ℕ) (width : Option Width) (a : ℕ) (w : Width) → text ≡ before ++ width_text width
    → width ≡ Some w → Ok a ≡ hex_field 8 before → SpellsBytes text (record { address = a; width = w })
bytes_found text before width a w cut is read =
    let number = hex_field_only 8 a before (sym read) in
    record {
      in_range = number.0;
      spelled = cut ∙ ap (λ o. before ++ width_text o) is ∙ ap (λ t. t ++ width_text (Some w)) number.1;
    }

width_long : (w : Width) → length (width_text (Some w)) ≡ 2
width_long w = refl

address_is : (text before : List ℕ) (width : Option Width) (w : Width) (b : WatchedBytes)
    → text ≡ before ++ width_text width → width ≡ Some w → (is : SpellsBytes text b) → before ≡ hex 8 b.address
address_is text before width w b cut some is =
    let whole : text ≡ before ++ width_text (Some w) = cut ∙ ap (λ o. before ++ width_text o) some in
    let one : length text ≡ length before + 2 = ap length whole ∙ length-append before (width_text (Some w)) in
    let two : length text ≡ length (hex 8 b.address) + 2 =
    ap length is.spelled ∙ length-append (hex 8 b.address) (width_text (Some b.width)) in
    (same_begin before (width_text (Some w)) (hex 8 b.address) (width_text (Some b.width)) (omega (arith, one, two))
    (sym whole ∙ is.spelled)).0

pub no_width : (text : List ℕ) (width : Option Width) → (width ≡ None → (before : List ℕ) (w : Width)
    → text ≡ before ++ width_text (Some w) → ⊥) → width ≡ None → (b : WatchedBytes) → SpellsBytes text b → ⊥
no_width text width lacks none b is = lacks none (hex 8 b.address) b.width is.spelled

pub no_address : (text before : List ℕ) (width : Option Width) (w : Width) (error : FieldError)
    → text ≡ before ++ width_text width → width ≡ Some w → Err error ≡ hex_field 8 before → (b : WatchedBytes)
    → SpellsBytes text b → ⊥
no_address text before width w error cut some read b is =
    let number : hex_field 8 before ≡ Ok b.address =
    rw (address_is text before width w b cut some is) (hex_field-hex 8 b.address is.in_range) in
    let never : Err error ≡ Ok b.address = read ∙ number in cc

-- what the readers' own cuts say of it
pub no_register_named : (text name : List ℕ) → name ≡ field 64 text → ((r : ℕ) → IsNameOf r name → ⊥)
    → (h r : ℕ) → SpellsRegister text h r → ⊥
no_register_named text name cut none h r is =
    none r (subst (λ t. IsNameOf r t) (sym cut) (register_parts text h r is).0)

pub no_hart : (text hart : List ℕ) (error : FieldError) → hart ≡ rest 64 text → Err error ≡ decimal_field 255 hart
    → (h r : ℕ) → SpellsRegister text h r → ⊥
no_hart text hart error cut read h r is =
    let number : decimal_field 255 hart ≡ Ok h = rw cut (register_parts text h r is).1 in
    let never : Err error ≡ Ok h = read ∙ number in cc

pub register_found : (text name hart : List ℕ) (h r : ℕ) → name ≡ field 64 text → hart ≡ rest 64 text
    → IsNameOf r name → Ok h ≡ decimal_field 255 hart → SpellsRegister text h r
register_found text name hart h r first others named read =
    register_is text hart h r others (subst (λ t. IsNameOf r t) first named) (sym read)
