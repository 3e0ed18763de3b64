-- Each name is that of one thing: a search of all names finds it.
use Rattle.std.proofs.Common.{◌≡◌, ℕ, zero, suc, ◌+◌, ◌<◌, ◌≤◌, Bool, true, false, ◌==◌, ◌-◌, ◌⊎◌, ◌&&◌, if◌then◌else◌, List, [], ◌∷◌, length}
use Rattle.std.proofs.Common.{Option, Some, None, refl, sym, ap, ◌∙◌, inl, inr, arith}
use Rattle.std.proofs.lemmas.{Bool.false≢true, Bool.Decides.nat_tests, Fmt.decimal_nonempty, Str.Ascii.IsAscii-cons, Str.Ascii.IsAscii-nil}
use Rattle.std.proofs.lemmas.Slice.Eq.{bytes_eq-Decides}
use Rattle.std.specs.{Prelude.codes, Prelude.nat_lt, Prelude.slice_index, Str.bytes_eq, Str.IsAscii, Fmt.decimal, List.list_all}
use Rattle.std.specs.{Char.is_ascii_digit, Char.is_ascii_whitespace, Prelude.not}
use Rattle.text_fields.specs.Reading.{decimal_after}
use Rattle.text_fields.proofs.DecimalLaws.{decimal_after-decimal, decimal_digits}
use Rattle.rv_text.specs.Registers.{abi_name, lettered, pointer_name, x_name}
use Rattle.litmus_words.specs.declared.word.Mark.{Mark}
use Rattle.litmus_words.specs.declared.word.Mark.TheVariants as mark
use Rattle.litmus_tests.specs.declared.number_type.NumberType.{NumberType}
use Rattle.watched_outcomes.specs.declared.watch.Width.{Width}
use Rattle.watched_outcomes.specs.declared.watch.Width.TheVariants as width_kind
use Rattle.litmus_words.specs.Words.{HasTypeName, IsKeywordNamed, IsRegisterNamed, IsSignNamed, IsTypeNamed, begins_name}

-- the first that has this name
unfoldable pub find : {A : Type 0} → List (List ℕ × A) → List ℕ → Option A
find [] text = None
find (row ∷ rows) text = if bytes_eq row.0 text then Some row.1 else find rows text

-- whether all names pass a test
unfoldable pub each_name : {A : Type 0} → (List ℕ → Bool) → List (List ℕ × A) → Bool
each_name test [] = true
each_name test (row ∷ rows) = if test row.0 then each_name test rows else false

equal_bytes : (xs ys : List ℕ) → bytes_eq xs ys ≡ true → xs ≡ ys
equal_bytes xs ys e = grind (arith, bytes_eq-Decides xs ys)

none_some : {A : Type 0} (it : A) → None ≡ Some it → ⊥
none_some it is = cc

-- what is found by its name passes it
pub found_passes : {A : Type 0} (test : List ℕ → Bool) (rows : List (List ℕ × A)) (text : List ℕ) (it : A)
    → each_name test rows ≡ true → find rows text ≡ Some it → test text ≡ true
unfolding find each_name
found_passes test [] text it all is = absurd (none_some it is)
found_passes test (row ∷ rows) text it all is = by_tests (bytes_eq row.0 text) (test row.0) refl refl (found_passes test rows text it)
  where
    by_tests : (same passes : Bool) → bytes_eq row.0 text ≡ same → test row.0 ≡ passes
        → (each_name test rows ≡ true → find rows text ≡ Some it → test text ≡ true) → test text ≡ true
    by_tests true true e p others = ap test (sym (equal_bytes row.0 text e)) ∙ p
    by_tests false true e p others = others (rw p at all) (rw e at is)
    by_tests true false e p others = absurd (false≢true (rw p at all))
    by_tests false false e p others = absurd (false≢true (rw p at all))

-- two that are found by one name are one
pub found_once : {A : Type 0} (rows : List (List ℕ × A)) (text : List ℕ) (one other : A) → find rows text ≡ Some one
    → find rows text ≡ Some other → one ≡ other
found_once rows text one other a b = let both : Some one ≡ Some other = sym a ∙ b in cc

-- tests of numbers
less_test : (a b : ℕ) → a < b → nat_lt a b ≡ true
less_test a b less = grind (arith, nat_tests, less)

more_test : (a b : ℕ) → b ≤ a → nat_lt a b ≡ false
more_test a b more = grind (arith, nat_tests, more)

less_from : (a b : ℕ) → nat_lt a b ≡ true → a < b
less_from a b e = grind (arith, nat_tests, e)

more_from : (a b : ℕ) → nat_lt a b ≡ false → b ≤ a
more_from a b e = grind (arith, nat_tests, e)

-- registers: the letter and the number behind it, or the letter alone where another is behind it
numbered : ℕ → ℕ → ℕ
numbered letter k = if letter == 116 then (if nat_lt k 3 then k + 5 else k + 25)
    else (if letter == 115 then (if nat_lt k 2 then k + 8 else k + 16)
    else (if letter == 97 then k + 10 else k))

pointer : ℕ → ℕ
pointer letter = if letter == 114 then 1 else (if letter == 115 then 2 else (if letter == 103 then 3
    else (if letter == 116 then 4 else (if letter == 102 then 8 else 0))))

register_in : List ℕ → ℕ
register_in [] = 0
register_in (letter ∷ others) =
    if nat_lt (slice_index others 0) 58 then numbered letter (decimal_after 0 others) else pointer letter

first_is_digit : (text : List ℕ) → 0 < length text → list_all is_ascii_digit text ≡ true
    → nat_lt (slice_index text 0) 58 ≡ true
first_is_digit [] some all = absurd (omega (arith, some))
first_is_digit (x ∷ xs) some all = grind (arith, nat_tests)

begins_with_digit : (k : ℕ) → k < 32 → nat_lt (slice_index (decimal k) 0) 58 ≡ true
begins_with_digit k small =
    let digits = decimal_digits k (omega (arith, small)) in
    let some = decimal_nonempty k (omega (arith, small)) in first_is_digit (decimal k) some digits

lettered_in : (letter k : ℕ) → k < 32 → register_in (lettered letter k) ≡ numbered letter k
unfolding register_in
lettered_in letter k small =
    rw (begins_with_digit k small, decimal_after-decimal k (omega (arith, small))) refl

x_in : (r : ℕ) → r < 32 → register_in (x_name r) ≡ r
unfolding numbered
x_in r small = lettered_in 120 r small

pointer_in : (r : ℕ) → 1 ≤ r → r < 5 → register_in (pointer_name r) ≡ r
unfolding pointer_name register_in pointer
pointer_in zero some less = absurd (omega (arith, some))
pointer_in (suc zero) some less = refl
pointer_in (suc (suc zero)) some less = refl
pointer_in (suc (suc (suc zero))) some less = refl
pointer_in (suc (suc (suc (suc zero)))) some less = refl
pointer_in (suc (suc (suc (suc (suc r))))) some less = absurd (omega (arith, less))

t_low : (k r : ℕ) → (k < 3) × (k + 5 ≡ r) → numbered 116 k ≡ r
unfolding numbered
t_low k r (less, is) = rw (less_test k 3 less) is

t_high : (k r : ℕ) → (3 ≤ k) × (k + 25 ≡ r) → numbered 116 k ≡ r
unfolding numbered
t_high k r (more, is) = rw (more_test k 3 more) is

s_low : (k r : ℕ) → (k < 2) × (k + 8 ≡ r) → numbered 115 k ≡ r
unfolding numbered
s_low k r (less, is) = rw (less_test k 2 less) is

s_high : (k r : ℕ) → (2 ≤ k) × (k + 16 ≡ r) → numbered 115 k ≡ r
unfolding numbered
s_high k r (more, is) = rw (more_test k 2 more) is

a_all : (k r : ℕ) → k + 10 ≡ r → numbered 97 k ≡ r
unfolding numbered
a_all k r is = is

abi_in : (r : ℕ) → 1 ≤ r → r ≤ 31 → register_in (abi_name r) ≡ r
unfolding abi_name numbered
abi_in r some most =
    by_tests (nat_lt r 5) (nat_lt r 8) (nat_lt r 10) (nat_lt r 18) (nat_lt r 28) refl refl refl refl refl
  where
    by_tests : (a b c d e : Bool) → nat_lt r 5 ≡ a → nat_lt r 8 ≡ b → nat_lt r 10 ≡ c → nat_lt r 18 ≡ d → nat_lt r 28 ≡ e
        → register_in (abi_name r) ≡ r
    by_tests true b c d e ia ib ic id ie = rw ia (pointer_in r some (less_from r 5 ia))
    by_tests false true c d e ia ib ic id ie =
        rw (ia, ib) (lettered_in 116 (r - 5) (omega (arith, most)) ∙ t_low (r - 5) r (let low = more_from r 5 ia in let high = less_from r 8 ib in (omega (arith, low, high), omega (arith, low, high))))
    by_tests false false true d e ia ib ic id ie =
        rw (ia, ib, ic) (lettered_in 115 (r - 8) (omega (arith, most)) ∙ s_low (r - 8) r (let low = more_from r 8 ib in let high = less_from r 10 ic in (omega (arith, low, high), omega (arith, low, high))))
    by_tests false false false true e ia ib ic id ie =
        rw (ia, ib, ic, id) (lettered_in 97 (r - 10) (omega (arith, most)) ∙ a_all (r - 10) r (let low = more_from r 10 ic in omega (arith, low)))
    by_tests false false false false true ia ib ic id ie =
        rw (ia, ib, ic, id, ie)
        (lettered_in 115 (r - 16) (omega (arith, most)) ∙ s_high (r - 16) r (let low = more_from r 18 id in (omega (arith, low), omega (arith, low))))
    by_tests false false false false false ia ib ic id ie =
        rw (ia, ib, ic, id, ie)
        (lettered_in 116 (r - 25) (omega (arith, most)) ∙ t_high (r - 25) r (let low = more_from r 28 ie in (omega (arith, low), omega (arith, low))))

register_is : (text : List ℕ) (r : ℕ) → IsRegisterNamed text r → register_in text ≡ r
unfolding register_in numbered pointer
register_is text r (inl (is, inl e)) = ap register_in e ∙ sym is
register_is text r (inl (is, inr e)) = ap register_in e ∙ sym is
register_is text r (inr (inl (is, e))) = ap register_in e ∙ sym is
register_is text r (inr (inr h)) = by_name h.name
  where
    by_name : (text ≡ abi_name r) ⊎ (text ≡ x_name r) → register_in text ≡ r
    by_name (inl e) = ap register_in e ∙ abi_in r h.first h.last
    by_name (inr e) = ap register_in e ∙ x_in r (omega (arith, h.last))

-- signs and keywords
signs : List (List ℕ × Mark)
signs = (codes ",", mark.Comma) ∷ (codes ":", mark.Colon) ∷ (codes ";", mark.Semicolon) ∷ (codes "|", mark.Bar)
    ∷ (codes "=", mark.Equals) ∷ (codes "-", mark.Minus) ∷ (codes "+", mark.Plus) ∷ (codes "*", mark.Star)
    ∷ (codes "(", mark.LeftParenthesis) ∷ (codes ")", mark.RightParenthesis) ∷ (codes "[", mark.LeftBracket)
    ∷ (codes "]", mark.RightBracket) ∷ (123 ∷ [], mark.LeftBrace) ∷ (125 ∷ [], mark.RightBrace) ∷ (codes "~", mark.Not)
    ∷ (47 ∷ 92 ∷ [], mark.And) ∷ (92 ∷ 47 ∷ [], mark.Or) ∷ (codes "=>", mark.Implies) ∷ (codes "<=>", mark.Equivalent)
    ∷ (codes "!=", mark.Differs) ∷ []

sign_found : (text : List ℕ) (m : Mark) → IsSignNamed text m → find signs text ≡ Some m
unfolding signs find
sign_found text mark.Comma e = ap (find signs) e
sign_found text mark.Colon e = ap (find signs) e
sign_found text mark.Semicolon e = ap (find signs) e
sign_found text mark.Bar e = ap (find signs) e
sign_found text mark.Equals e = ap (find signs) e
sign_found text mark.Minus e = ap (find signs) e
sign_found text mark.Plus e = ap (find signs) e
sign_found text mark.Star e = ap (find signs) e
sign_found text mark.LeftParenthesis e = ap (find signs) e
sign_found text mark.RightParenthesis e = ap (find signs) e
sign_found text mark.LeftBracket e = ap (find signs) e
sign_found text mark.RightBracket e = ap (find signs) e
sign_found text mark.LeftBrace e = ap (find signs) e
sign_found text mark.RightBrace e = ap (find signs) e
sign_found text mark.Not e = ap (find signs) e
sign_found text mark.And e = ap (find signs) e
sign_found text mark.Or e = ap (find signs) e
sign_found text mark.Implies e = ap (find signs) e
sign_found text mark.Equivalent e = ap (find signs) e
sign_found text mark.Differs e = ap (find signs) e
sign_found text _ h = absurd h

-- what each sign passes: it is of one to three bytes of ASCII, and begins with no digit, letter, `_` or blank
sign_test : List ℕ → Bool
sign_test text = nat_lt 0 (length text) && nat_lt (length text) 4 && list_all (λ b. nat_lt b 128) text
    && not (begins_name (slice_index text 0)) && not (is_ascii_digit (slice_index text 0))
    && not (is_ascii_whitespace (slice_index text 0))

sign_passes : (text : List ℕ) (m : Mark) → IsSignNamed text m → sign_test text ≡ true
unfolding sign_test signs each_name
sign_passes text m is = found_passes sign_test signs text m refl (sign_found text m is)

both_true : (a b : Bool) → (a && b) ≡ true → (a ≡ true) × (b ≡ true)
both_true true true e = (refl, refl)
both_true true false e = absurd (false≢true e)
both_true false b e = absurd (false≢true e)

ascii_from : (text : List ℕ) → list_all (λ b. nat_lt b 128) text ≡ true → IsAscii text
ascii_from [] all = IsAscii-nil
ascii_from (b ∷ bs) all =
    let both = both_true (nat_lt b 128) _ all in IsAscii-cons b bs (less_from b 128 both.0) (ascii_from bs both.1)

not_false : (b : Bool) → not b ≡ true → b ≡ false
not_false true e = absurd (false≢true e)
not_false false e = refl

pub record IsOfSign (text : List ℕ) : Type 0 where
  pub some : 0 < length text
  pub short : length text < 4
  pub ascii : list_all (λ b. nat_lt b 128) text ≡ true
  pub no_name : begins_name (slice_index text 0) ≡ false
  pub no_digit : is_ascii_digit (slice_index text 0) ≡ false
  pub dark : is_ascii_whitespace (slice_index text 0) ≡ false

pub sign_is : (text : List ℕ) (m : Mark) → IsSignNamed text m → IsOfSign text
unfolding sign_test
sign_is text m is =
    let e = both_true _ _ (sign_passes text m is) in
    let d = both_true _ _ e.0 in
    let c = both_true _ _ d.0 in
    let b = both_true _ _ c.0 in
    let a = both_true _ _ b.0 in
    record {
      some = less_from _ _ a.0;
      short = less_from _ _ a.1;
      ascii = b.1;
      no_name = not_false _ c.1;
      no_digit = not_false _ d.1;
      dark = not_false _ e.1;
    }

pub sign_ascii : (text : List ℕ) (m : Mark) → IsSignNamed text m → IsAscii text
sign_ascii text m is = ascii_from text (sign_is text m is).ascii

pub sign_once : (text : List ℕ) (m other : Mark) → IsSignNamed text m → IsSignNamed text other → m ≡ other
sign_once text m other a b = found_once signs text m other (sign_found text m a) (sign_found text other b)

keywords : List (List ℕ × Mark)
keywords = (codes "not", mark.Not) ∷ (codes "true", mark.True) ∷ (codes "exists", mark.Exists)
    ∷ (codes "forall", mark.ForAll) ∷ (codes "locations", mark.Locations) ∷ (codes "filter", mark.Filter) ∷ []

keyword_found : (text : List ℕ) (m : Mark) → IsKeywordNamed text m → find keywords text ≡ Some m
unfolding keywords find
keyword_found text mark.Not e = ap (find keywords) e
keyword_found text mark.True e = ap (find keywords) e
keyword_found text mark.Exists e = ap (find keywords) e
keyword_found text mark.ForAll e = ap (find keywords) e
keyword_found text mark.Locations e = ap (find keywords) e
keyword_found text mark.Filter e = ap (find keywords) e
keyword_found text _ h = absurd h

pub keyword_once : (text : List ℕ) (m other : Mark) → IsKeywordNamed text m → IsKeywordNamed text other → m ≡ other
keyword_once text m other a b = found_once keywords text m other (keyword_found text m a) (keyword_found text other b)

-- types
type_of : Width → Bool → NumberType
type_of width is_signed = record { width = width; is_signed = is_signed }

types : List (List ℕ × NumberType)
types = (codes "int8_t", type_of width_kind.Byte true) ∷ (codes "uint8_t", type_of width_kind.Byte false)
    ∷ (codes "char", type_of width_kind.Byte false) ∷ (codes "int16_t", type_of width_kind.Half true)
    ∷ (codes "short", type_of width_kind.Half true) ∷ (codes "uint16_t", type_of width_kind.Half false)
    ∷ (codes "int", type_of width_kind.Word true) ∷ (codes "int32_t", type_of width_kind.Word true)
    ∷ (codes "unsigned", type_of width_kind.Word false) ∷ (codes "uint32_t", type_of width_kind.Word false) ∷ []

type_with : (text : List ℕ) (width : Width) (is_signed : Bool) → HasTypeName width is_signed text
    → find types text ≡ Some (type_of width is_signed)
unfolding types type_of find
type_with text width_kind.Byte true e = ap (find types) e
type_with text width_kind.Byte false (inl e) = ap (find types) e
type_with text width_kind.Byte false (inr e) = ap (find types) e
type_with text width_kind.Half true (inl e) = ap (find types) e
type_with text width_kind.Half true (inr e) = ap (find types) e
type_with text width_kind.Half false e = ap (find types) e
type_with text width_kind.Word true (inl e) = ap (find types) e
type_with text width_kind.Word true (inr e) = ap (find types) e
type_with text width_kind.Word false (inl e) = ap (find types) e
type_with text width_kind.Word false (inr e) = ap (find types) e

type_found : (text : List ℕ) (t : NumberType) → IsTypeNamed text t → find types text ≡ Some t
unfolding type_of
type_found text t is = type_with text t.width t.is_signed is

pub type_once : (text : List ℕ) (t other : NumberType) → IsTypeNamed text t → IsTypeNamed text other → t ≡ other
type_once text t other a b = found_once types text t other (type_found text t a) (type_found text other b)

pub register_once : (text : List ℕ) (r other : ℕ) → IsRegisterNamed text r → IsRegisterNamed text other → r ≡ other
register_once text r other a b = sym (register_is text r a) ∙ register_is text other b
