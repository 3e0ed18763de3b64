-- Names, numbers and places as they are spelled: which bytes they lack outside of quotation marks.
use Rattle.std.proofs.Common.{◌≡◌, ℕ, ◌+◌, Bool, true, false, ◌&&◌, ◌||◌, ◌==◌, List, [], ◌∷◌}
use Rattle.std.proofs.Common.{◌++◌, Option, Some, None, inl, inr, refl, sym, subst, arith, codes}
use Rattle.std.proofs.{lemmas.Bool.Decides.nat_tests}
use Rattle.std.specs.{Char.is_ascii_digit, List.list_all, Borrow.Bor}
use Rattle.text_fields.specs.{Reading.is_hex_digit, Spelling.hex, Splitting.Lacks, Values.SpellsValue}
use Rattle.text_fields.proofs.LacksLaws.{Lacks-append, Lacks-decimal, Lacks-from_all, Lacks-hex}
use Rattle.watched_outcomes.specs.declared.watch.Width.{Width}
use Rattle.watched_outcomes.specs.declared.watch.Width.TheVariants.{Byte, Half, Word}
use Rattle.watched_outcomes.specs.Watching.{bytes_of}
use Rattle.outcome_queries.specs.declared.placed.{Placed.Placed, Behind.Behind}
use Rattle.outcome_queries.specs.declared.placed.Behind.TheVariants.{Element, Bytes}
use Rattle.outcome_queries.specs.Placed.{can_begin, can_follow, is_plain_name, SpellsPart, SpellsOf}
use Rattle.outcome_queries.specs.Placed.{SpellsBehind, SpellsPlaced}
use Rattle.outcome_queries.specs.Widths.{width_text}
use Rattle.outcome_queries.proofs.Outside.{Skips, skips_plain, skips_quoted, skips_both, skips_none}
use Rattle.outcome_queries.proofs.Reading.{IsMark, equals_mark}

-- a byte that stands in no name without marks and in no number
pub record IsApart (s : ℕ) : Type 0 where
  pub mark : (s == 39) ≡ false
  pub name : can_follow s ≡ false
  pub digit : is_ascii_digit s ≡ false
  pub hex : is_hex_digit s ≡ false
  pub base : (120 == s) ≡ false

pub bracket : IsApart 91
bracket = record { mark = refl; name = refl; digit = refl; hex = refl; base = refl }

pub plus : IsApart 43
plus = record { mark = refl; name = refl; digit = refl; hex = refl; base = refl }

pub colon : IsApart 58
colon = record { mark = refl; name = refl; digit = refl; hex = refl; base = refl }

pub equals : IsApart 61
equals = record { mark = refl; name = refl; digit = refl; hex = refl; base = refl }

-- ---- numbers

pub value_lacks : (s v : ℕ) (text : List ℕ) → is_ascii_digit s ≡ false → is_hex_digit s ≡ false → (120 == s) ≡ false
    → SpellsValue text v → Lacks s text
value_lacks s v text digit hex base (inl is) =
    let few = is.in_range in rw is.spelled (Lacks-decimal s v digit (grind arith))
value_lacks s v text digit hex_digit base (inr is) =
    let zero : (48 == s) ≡ false = grind (arith, nat_tests) in
    let lead : Lacks s (codes "0x") = rw (zero, base) refl in
    rw is.spelled (Lacks-append s (codes "0x") (hex is.digits v) lead (Lacks-hex s is.digits v hex_digit))

pub value_skips : (s v : ℕ) (text : List ℕ) → IsApart s → SpellsValue text v → Skips s text
value_skips s v text apart is = skips_plain s text (value_lacks s v text apart.digit apart.hex apart.base is)
    (value_lacks 39 v text refl refl refl is)

-- ---- names

first_follows : (c : ℕ) → can_begin c ≡ true → can_follow c ≡ true
first_follows c begins = rw begins refl

plain_parts : (a b : Bool) → (a && b) ≡ true → (a ≡ true) × (b ≡ true)
plain_parts true b is = (refl, is)
plain_parts false b is = cc

pub record IsPlain (first : ℕ) (rest : List ℕ) : Type 0 where
  pub begins : can_begin first ≡ true
  pub follows : list_all can_follow rest ≡ true

pub plain_is : (first : ℕ) (rest : List ℕ) → is_plain_name (first ∷ rest) ≡ true → IsPlain first rest
unfolding is_plain_name
plain_is first rest is =
    let outer = plain_parts (can_begin first) _ is in
    let inner = plain_parts (list_all can_follow rest) _ outer.1 in
    record { begins = outer.0; follows = inner.0 }

pub plain_some : is_plain_name [] ≡ true → ⊥
unfolding is_plain_name
plain_some is = cc

pub plain_all : (name : List ℕ) → is_plain_name name ≡ true → list_all can_follow name ≡ true
plain_all [] is = refl
plain_all (first ∷ rest) is =
    let plain = plain_is first rest is in
    rw (first_follows first plain.begins) plain.follows

pub plain_skips : (s : ℕ) (name : List ℕ) → IsApart s → is_plain_name name ≡ true → Skips s name
plain_skips s name apart is =
    let all = plain_all name is in
    skips_plain s name (Lacks-from_all can_follow s name apart.name all) (Lacks-from_all can_follow 39 name refl all)

pub part_skips : (s : ℕ) (text name : List ℕ) → IsApart s → SpellsPart text name → Skips s text
part_skips s text name apart (inl is) = subst (λ t. Skips s t) (sym is.1) (plain_skips s name apart is.0)
part_skips s text name apart (inr is) = subst (λ t. Skips s t) (sym is.spelled) (skips_quoted s name is.plain)

byte_skips : (s c : ℕ) → (c == s) ≡ false → (c == 39) ≡ false → Skips s (c ∷ [])
byte_skips s c other mark = skips_plain s (c ∷ []) (rw other refl) (rw mark refl)

pub behind_byte : (s c : ℕ) (rest : List ℕ) → (c == s) ≡ false → (c == 39) ≡ false → Skips s rest → Skips s (c ∷ rest)
behind_byte s c rest other mark skips = skips_both s (c ∷ []) rest (byte_skips s c other mark) skips

pub name_skips : (s : ℕ) (text : List ℕ) (file : Option (Bor (List ℕ))) (name : List ℕ) → IsApart s → (58 == s) ≡ false
    → SpellsOf text file name → Skips s text
name_skips s text None name apart other is = part_skips s text name apart is
name_skips s text (Some file) name apart other is =
    subst (λ t. Skips s t) (sym is.4)
    (skips_both s is.0 (58 ∷ is.1) (part_skips s is.0 file.now apart is.2)
    (behind_byte s 58 is.1 other refl (part_skips s is.1 name apart is.3)))

-- ---- places

pub behind_skips : (s : ℕ) (text : List ℕ) (far : Behind) → IsApart s → (91 == s) ≡ false → (93 == s) ≡ false
    → (43 == s) ≡ false → SpellsBehind text far → Skips s text
behind_skips s text (Element n) apart open_one close_one plus_one is =
    subst (λ t. Skips s t) (sym is.2)
    (behind_byte s 91 (is.0 ++ 93 ∷ []) open_one refl
    (skips_both s is.0 (93 ∷ []) (value_skips s n is.0 apart is.1) (byte_skips s 93 close_one refl)))
behind_skips s text (Bytes n) apart open_one close_one plus_one (inl is) =
    subst (λ t. Skips s t) (sym is.1) (skips_none s)
behind_skips s text (Bytes n) apart open_one close_one plus_one (inr is) =
    subst (λ t. Skips s t) (sym is.2) (behind_byte s 43 is.0 plus_one refl (value_skips s n is.0 apart is.1))

digit_skips : (s : ℕ) (w : Width) → IsApart s → Skips s ((48 + bytes_of w) ∷ [])
digit_skips s Byte apart = skips_plain s (49 ∷ []) (Lacks-from_all is_ascii_digit s (49 ∷ []) apart.digit refl) refl
digit_skips s Half apart = skips_plain s (50 ∷ []) (Lacks-from_all is_ascii_digit s (50 ∷ []) apart.digit refl) refl
digit_skips s Word apart = skips_plain s (52 ∷ []) (Lacks-from_all is_ascii_digit s (52 ∷ []) apart.digit refl) refl

pub width_skips : (s : ℕ) (w : Option Width) → IsApart s → (58 == s) ≡ false → Skips s (width_text w)
width_skips s None apart other = skips_none s
width_skips s (Some w) apart other = behind_byte s 58 ((48 + bytes_of w) ∷ []) other refl (digit_skips s w apart)

-- a byte of the sign of a relation
pub record IsSign (s : ℕ) : Type 0 where
  pub apart : IsApart s
  pub mark : IsMark s
  pub colon_not : (58 == s) ≡ false
  pub opening : (91 == s) ≡ false
  pub closing : (93 == s) ≡ false
  pub plus_not : (43 == s) ≡ false
  pub at_not : (64 == s) ≡ false
  pub h : (104 == s) ≡ false
  pub star : (42 == s) ≡ false
  pub letters : ((111 == s) || ((117 == s) || (116 == s))) ≡ false

pub equals_sign : IsSign 61
equals_sign = record {
  apart = equals;
  mark = equals_mark;
  colon_not = refl;
  opening = refl;
  closing = refl;
  plus_not = refl;
  at_not = refl;
  h = refl;
  star = refl;
  letters = refl;
}

pub below_sign : IsSign 60
below_sign = record {
  apart = record { mark = refl; name = refl; digit = refl; hex = refl; base = refl };
  mark = record { digit = refl; hex = refl; letters = refl };
  colon_not = refl;
  opening = refl;
  closing = refl;
  plus_not = refl;
  at_not = refl;
  h = refl;
  star = refl;
  letters = refl;
}

pub not_sign : IsSign 33
not_sign = record {
  apart = record { mark = refl; name = refl; digit = refl; hex = refl; base = refl };
  mark = record { digit = refl; hex = refl; letters = refl };
  colon_not = refl;
  opening = refl;
  closing = refl;
  plus_not = refl;
  at_not = refl;
  h = refl;
  star = refl;
  letters = refl;
}

pub least_sign : IsSign 62
least_sign = record {
  apart = record { mark = refl; name = refl; digit = refl; hex = refl; base = refl };
  mark = record { digit = refl; hex = refl; letters = refl };
  colon_not = refl;
  opening = refl;
  closing = refl;
  plus_not = refl;
  at_not = refl;
  h = refl;
  star = refl;
  letters = refl;
}

pub place_skips : (s : ℕ) (text : List ℕ) (placed : Placed) → IsSign s → SpellsPlaced text placed → Skips s text
place_skips s text placed sign is =
    let at = is.written in
    let named = name_skips s at.named placed.name.file placed.name.name.now sign.apart sign.colon_not at.names in
    let goes = behind_skips s at.behind placed.behind sign.apart sign.opening sign.closing sign.plus_not at.goes in
    let place : Skips s is.place =
    subst (λ t. Skips s t) (sym at.spelled) (skips_both s at.named at.behind named goes) in
    subst (λ t. Skips s t) (sym is.spelled)
    (skips_both s is.place (width_text placed.width) place (width_skips s placed.width sign.apart sign.colon_not))
