-- At a byte of a text one word begins at most.
use Rattle.std.proofs.Common.{◌≡◌, ◌⊎◌, ℕ, ◌+◌, ◌-◌, ◌^◌, ◌<◌, ◌≤◌, true, false, List, ◌∷◌, length, drop}
use Rattle.std.proofs.Common.{Option, Some, None, Result, Ok, Err, refl, sym, ap, ◌∙◌, subst, inl, inr, arith, All, length-drop}
use Rattle.std.proofs.lemmas.{Bool.Decides.nat_tests, Bool.cases_order, Fmt.decimal_injective, List.Elements.All-head, List.Elements.All-tail, List.get_or-drop, List.get_or-take, List.length-take-le}
use Rattle.std.specs.{Prelude.slice_index, Prelude.slice_range, Prelude.IfErr, Prelude.IfNone, Str.IsAscii}
use Rattle.std.specs.Char.{is_ascii_digit, is_ascii_whitespace}
use Rattle.std.specs.Fmt.{decimal}
use Rattle.litmus_words.specs.declared.word.{Word.Word, Mark.Mark}
use Rattle.litmus_words.specs.declared.word.Token.{Token}
use Rattle.litmus_words.specs.declared.word.Token.TheVariants as token
use Rattle.litmus_words.specs.Comments.{Opens}
use Rattle.litmus_words.specs.Gaps.{IsGapEnd}
use Rattle.litmus_words.specs.Numbers.{SpellsNumeral, SpellsDigits, IsHexadecimal, is_digit, number_after}
use Rattle.litmus_words.specs.Words.{GoesOn, IsNameToken, IsSignNamed, IsWordAt, IsWordOf}
use Rattle.litmus_words.specs.Words.{SpellsToken, begins_name, is_of_name, rank}
use Rattle.litmus_words.proofs.{Ending.not_true, Ending.past_end, InstructionNames.instruction_once}
use Rattle.litmus_words.proofs.Tables.{keyword_once, register_once, sign_is, sign_once, type_once}

-- numbers
second_of_all : (P : ℕ → Type 0) (x y : ℕ) (xs : List ℕ) → All P (x ∷ y ∷ xs) → P y
second_of_all P x y xs all = All-head P y xs (All-tail P x (y ∷ xs) all)

behind_letter : (one other : List ℕ) → 80 ∷ one ≡ 80 ∷ other → one ≡ other
behind_letter one other e = cc

no_letter_digit : (text : List ℕ) (letter : ℕ) (digits : List ℕ) (number : ℕ) → text ≡ 48 ∷ letter ∷ digits
    → is_ascii_digit letter ≡ false → SpellsDigits 10 text number → ⊥
no_letter_digit text letter digits number e no_digit h =
    let all = subst (All (λ d. is_digit 10 d ≡ true)) e h.digits_all in not_true (is_ascii_digit letter) no_digit (second_of_all (λ d. is_digit 10 d ≡ true) 48 letter digits all)

no_hexadecimal : (text digits : List ℕ) (number : ℕ) → IsHexadecimal text digits → SpellsDigits 10 text number → ⊥
no_hexadecimal text digits number (inl e) h = no_letter_digit text 120 digits number e refl h
no_hexadecimal text digits number (inr e) h = no_letter_digit text 88 digits number e refl h

same_digits : (text one other : List ℕ) → IsHexadecimal text one → IsHexadecimal text other → one ≡ other
same_digits text one other (inl a) (inl b) = cc
same_digits text one other (inl a) (inr b) = cc
same_digits text one other (inr a) (inl b) = cc
same_digits text one other (inr a) (inr b) = cc

numeral_once : (text : List ℕ) (one other : ℕ) → SpellsNumeral text one → SpellsNumeral text other → one ≡ other
numeral_once text one other (inl a) (inl b) = a.value ∙ sym b.value
numeral_once text one other (inl a) (inr (digits, is, b)) = absurd (no_hexadecimal text digits one is a)
numeral_once text one other (inr (digits, is, a)) (inl b) = absurd (no_hexadecimal text digits other is b)
numeral_once text one other (inr (digits, is, a)) (inr (digits', is', b)) =
    let same = same_digits text digits digits' is is' in
    a.value ∙ ap (number_after 16 0) same ∙ sym b.value

-- names
hart_once : (text : List ℕ) (one other : ℕ) → one < 2 ^ 32 → other < 2 ^ 32 → text ≡ 80 ∷ decimal one
    → text ≡ 80 ∷ decimal other → one ≡ other
hart_once text one other small small' a b =
    decimal_injective one other (omega (arith, small)) (omega (arith, small')) (behind_letter _ _ (sym a ∙ b))

same_token : (name : List ℕ) (one other : Token) → SpellsToken name one → SpellsToken name other
    → rank one ≡ rank other → one ≡ other
same_token name (token.Location declared) other a b e = absurd a
same_token name one (token.Location declared) a b e = absurd b
same_token name (token.Register one) (token.Register other) a b e = ap token.Register (register_once name one other a b)
same_token name (token.Mark one) (token.Mark other) a b e = ap token.Mark (keyword_once name one other a b)
same_token name (token.Type one) (token.Type other) a b e = ap token.Type (type_once name one other a b)
same_token name (token.Mnemonic one) (token.Mnemonic other) a b e =
    ap token.Mnemonic (instruction_once name one other a b)
same_token name (token.Hart one) (token.Hart other) a b e =
    ap token.Hart (hart_once name one other a.1 b.1 a.0 b.0)
same_token name token.Name token.Name a b e = refl
same_token name (token.Number one) (token.Number other) a b e = ap token.Number (numeral_once name one other a.0 b.0)
same_token name _ _ a b e = absurd (omega (arith, e))

name_once : (name : List ℕ) (one other : Token) → IsNameToken name one → IsNameToken name other → one ≡ other
name_once name one other a b =
    let here = a.first other b.spelled in
    let there = b.first one a.spelled in
    same_token name one other a.spelled b.spelled (omega (arith, here, there))

-- where they end
goes_on_once : (text : List ℕ) (from one other : ℕ) → from ≤ one → from ≤ other → GoesOn text from one
    → GoesOn text from other → one ≡ other
goes_on_once text from one other here there a b = by_order (cases_order one other)
  where
    by_order : (one ≡ other) ⊎ ((one < other) ⊎ (other < one)) → one ≡ other
    by_order (inl same) = same
    by_order (inr (inl less)) = absurd (not_true (is_of_name (slice_index text one)) a.ends (b.each one here less))
    by_order (inr (inr more)) = absurd (not_true (is_of_name (slice_index text other)) b.ends (a.each other there more))

-- the first byte of a part
pub first_of_part : (text : List ℕ) (from to : ℕ) → from < to → slice_index (slice_range text from to) 0 ≡ slice_index text from
first_of_part text from to some =
    get_or-take (to - from) (drop from text) 0 0 (omega (arith, some)) ∙ get_or-drop from text 0 0
    ∙ ap (slice_index text) (omega arith)

pub part_length : (text : List ℕ) (from to : ℕ) → to ≤ length text → length (slice_range text from to) ≡ to - from
part_length text from to inside =
    let long = length-drop from text in length-take-le (to - from) (drop from text) (omega (arith, long, inside))

letter_no_digit : (byte : ℕ) → begins_name byte ≡ true → is_ascii_digit byte ≡ true → ⊥
letter_no_digit byte a b = grind (arith, nat_tests)

low_byte : (byte : ℕ) → is_of_name byte ≡ true → byte < 128
low_byte byte a = grind (arith, nat_tests)

pub letter_goes_on : (byte : ℕ) → begins_name byte ≡ true → is_of_name byte ≡ true
letter_goes_on byte a = grind (arith, nat_tests)

pub digit_goes_on : (byte : ℕ) → is_ascii_digit byte ≡ true → is_of_name byte ≡ true
digit_goes_on byte a = grind (arith, nat_tests)

letter_dark : (byte : ℕ) → begins_name byte ≡ true → (is_ascii_whitespace byte ≡ false) × (byte ≡ 40 → ⊥)
letter_dark byte a = (grind (arith, nat_tests), grind (arith, nat_tests))

digit_dark : (byte : ℕ) → is_ascii_digit byte ≡ true → (is_ascii_whitespace byte ≡ false) × (byte ≡ 40 → ⊥)
digit_dark byte a = (grind (arith, nat_tests), grind (arith, nat_tests))

-- what a sign begins with
sign_at : (text : List ℕ) (from to : ℕ) (mark : Mark) → from < to → IsSignNamed (slice_range text from to) mark
    → (begins_name (slice_index text from) ≡ false) × (is_ascii_digit (slice_index text from) ≡ false)
    × (is_ascii_whitespace (slice_index text from) ≡ false)
sign_at text from to mark some is =
    let of = sign_is (slice_range text from to) mark is in
    let first = first_of_part text from to some in (
      sym (ap begins_name first) ∙ of.no_name,
      sym (ap is_ascii_digit first) ∙ of.no_digit,
      sym (ap is_ascii_whitespace first) ∙ of.dark,
    )

-- no blank and no comment begins where a word does
pub no_gap_at_word : (text : List ℕ) (word : Word) → word.start < word.end → IsWordOf text word → IsGapEnd text word.start
no_gap_at_word text word some (inl h) =
    let dark = letter_dark (slice_index text word.start) h.begins in inr (dark.0, λ o. dark.1 o.0)
no_gap_at_word text word some (inr (inl h)) =
    let dark = digit_dark (slice_index text word.start) h.begins in inr (dark.0, λ o. dark.1 o.0)
no_gap_at_word text word some (inr (inr h)) =
    inr ((sign_at text word.start word.end h.mark some h.named).2, h.no_comment)

-- one word
abbrev pub made : ℕ → ℕ → Token → Word
made from to it = record { start = from; end = to; token = it }

same_parts : (start end end' : ℕ) (one other : Token) → end ≡ end' → one ≡ other
    → made start end one ≡ made start end' other
same_parts start end end' one other e t = ap (λ (n : ℕ). made start n one) e ∙ ap (λ (it : Token). made start end' it) t

pub word_once : (text : List ℕ) (start end end' : ℕ) (one other : Token) → start < end → start < end'
    → end ≤ length text → end' ≤ length text → IsWordOf text (made start end one)
    → IsWordOf text (made start end' other) → made start end one ≡ made start end' other
word_once text start end end' one other some some' inside inside' (inl a) (inl b) =
    let same = goes_on_once text start end end' (omega (arith, some)) (omega (arith, some')) a.whole b.whole in
    same_parts start end end' one other same
    (name_once (slice_range text start end') one other
    (subst (λ (n : ℕ). IsNameToken (slice_range text start n) one) same a.token) b.token)
word_once text start end end' one other some some' inside inside' (inl a) (inr (inl b)) =
    absurd (letter_no_digit (slice_index text start) a.begins b.begins)
word_once text start end end' one other some some' inside inside' (inl a) (inr (inr b)) =
    absurd (not_true (begins_name (slice_index text start)) (sign_at text start end' b.mark some' b.named).0 a.begins)
word_once text start end end' one other some some' inside inside' (inr (inl a)) (inl b) =
    absurd (letter_no_digit (slice_index text start) b.begins a.begins)
word_once text start end end' one other some some' inside inside' (inr (inl a)) (inr (inl b)) =
    let same = goes_on_once text start end end' (omega (arith, some)) (omega (arith, some')) a.whole b.whole in
    let spelled = subst (λ (n : ℕ). SpellsNumeral (slice_range text start n) a.number) same a.spelled.0 in
    same_parts start end end' one other same
    (a.is ∙ ap token.Number (numeral_once (slice_range text start end') a.number b.number spelled b.spelled.0) ∙ sym b.is)
word_once text start end end' one other some some' inside inside' (inr (inl a)) (inr (inr b)) =
    absurd (not_true (is_ascii_digit (slice_index text start)) (sign_at text start end' b.mark some' b.named).1 a.begins)
word_once text start end end' one other some some' inside inside' (inr (inr a)) (inl b) =
    absurd (not_true (begins_name (slice_index text start)) (sign_at text start end a.mark some a.named).0 b.begins)
word_once text start end end' one other some some' inside inside' (inr (inr a)) (inr (inl b)) =
    absurd (not_true (is_ascii_digit (slice_index text start)) (sign_at text start end a.mark some a.named).1 b.begins)
word_once text start end end' one other some some' inside inside' (inr (inr a)) (inr (inr b)) =
    let here = a.longest b.mark end' inside' b.named in
    let there = b.longest a.mark end inside a.named in
    let same : end ≡ end' = omega (arith, here, there) in
    let named = subst (λ (n : ℕ). IsSignNamed (slice_range text start n) a.mark) same a.named in
    same_parts start end end' one other same
    (a.is ∙ ap token.Mark (sign_once (slice_range text start end') a.mark b.mark named b.named) ∙ sym b.is)

-- the same of whole words
pub same_word : (text : List ℕ) (at : ℕ) (one other : Word) → IsWordAt text at one → IsWordAt text at other → one ≡ other
same_word text at one other a b =
    let same : one.start ≡ other.start = a.begins ∙ sym b.begins in
    let here = subst (λ (n : ℕ). IsWordOf text (made n one.end one.token)) same a.is in
    let some = subst (λ (n : ℕ). n < one.end) same a.some in
    ap (λ (n : ℕ). made n one.end one.token) same
    ∙ word_once text other.start one.end other.end one.token other.token some b.some a.inside b.inside here b.is

-- a run of bytes, one further; and where it ends
pub one_further : (text : List ℕ) (from at : ℕ)
    → ((k : ℕ) → from ≤ k → k < at → is_of_name (slice_index text k) ≡ true) → is_of_name (slice_index text at) ≡ true
    → (k : ℕ) → from ≤ k → k < at + 1 → is_of_name (slice_index text k) ≡ true
one_further text from at before here k low high = by_order (cases_order k at)
  where
    by_order : (k ≡ at) ⊎ ((k < at) ⊎ (at < k)) → is_of_name (slice_index text k) ≡ true
    by_order (inl same) = ap (λ (n : ℕ). is_of_name (slice_index text n)) same ∙ here
    by_order (inr (inl less)) = before k low less
    by_order (inr (inr more)) = absurd (omega (arith, more, high))

pub ends_before : (text : List ℕ) (from at : ℕ)
    → ((k : ℕ) → from ≤ k → k < at → is_of_name (slice_index text k) ≡ true)
    → is_of_name (slice_index text at) ≡ false → GoesOn text from at
ends_before text from at before here = record { each = before; ends = here }

pub ends_at_end : (text : List ℕ) (from at : ℕ)
    → ((k : ℕ) → from ≤ k → k < at → is_of_name (slice_index text k) ≡ true) → length text ≤ at → GoesOn text from at
ends_at_end text from at before over =
    record { each = before; ends = ap is_of_name (past_end text at over) }

-- with the first byte
pub with_first : (text : List ℕ) (at to : ℕ) → is_of_name (slice_index text at) ≡ true → GoesOn text (at + 1) to
    → GoesOn text at to
with_first text at to here h = record {
  each = λ k low high. first_or_later k low high (cases_order k at);
  ends = h.ends;
}
  where
    first_or_later : (k : ℕ) → at ≤ k → k < to → (k ≡ at) ⊎ ((k < at) ⊎ (at < k)) → is_of_name (slice_index text k) ≡ true
    first_or_later k low high (inl same) = ap (λ (n : ℕ). is_of_name (slice_index text n)) same ∙ here
    first_or_later k low high (inr (inl less)) = absurd (omega (arith, less, low))
    first_or_later k low high (inr (inr more)) = h.each k (omega (arith, more)) high

-- the bytes of that part
pub part_goes_on : (text : List ℕ) (from to : ℕ) → to ≤ length text → GoesOn text from to → (i : ℕ)
    → i < length (slice_range text from to) → is_of_name (slice_index (slice_range text from to) i) ≡ true
part_goes_on text from to inside h i less =
    let long = part_length text from to inside in
    let at : slice_index (slice_range text from to) i ≡ slice_index text (from + i) =
    get_or-take (to - from) (drop from text) i 0 (omega (arith, less, long)) ∙ get_or-drop from text i 0 in
    ap is_of_name at ∙ h.each (from + i) (omega arith) (omega (arith, less, long))

pub is_ascii_name : (name : List ℕ) → ((i : ℕ) → i < length name → is_of_name (slice_index name i) ≡ true) → IsAscii name
is_ascii_name name each i = by_order (cases_order i (length name))
  where
    by_order : (i ≡ length name) ⊎ ((i < length name) ⊎ (length name < i)) → slice_index name i < 128
    by_order (inl same) = let past = past_end name i (omega (arith, same)) in omega (arith, past)
    by_order (inr (inl less)) = low_byte (slice_index name i) (each i less)
    by_order (inr (inr more)) = let past = past_end name i (omega (arith, more)) in omega (arith, past)

-- which word is there
pub name_there : (text : List ℕ) (at end : ℕ) (it : Token) → begins_name (slice_index text at) ≡ true
    → GoesOn text (at + 1) end → IsNameToken (slice_range text at end) it → IsWordOf text (made at end it)
name_there text at end it begins whole is =
    inl (record { begins = begins; whole = with_first text at end (letter_goes_on (slice_index text at) begins) whole; token = is })

pub number_there : (text : List ℕ) (at end number : ℕ) → is_ascii_digit (slice_index text at) ≡ true
    → GoesOn text (at + 1) end → SpellsNumeral (slice_range text at end) number → number < 2 ^ 32
    → IsWordOf text (made at end (token.Number number))
number_there text at end number begins whole spelled small =
    inr (inl (record {
      begins = begins;
      whole = with_first text at end (digit_goes_on (slice_index text at) begins) whole;
      number = number;
      is = refl;
      spelled = (spelled, small);
    }))

pub sign_there : (text : List ℕ) (at end : ℕ) (mark : Mark) → (Opens text at → ⊥)
    → IsSignNamed (slice_range text at end) mark
    → ((other : Mark) → (to : ℕ) → to ≤ length text → IsSignNamed (slice_range text at to) other → to ≤ end)
    → IsWordOf text (made at end (token.Mark mark))
sign_there text at end mark closed is longest =
    inr (inr (record { no_comment = closed; mark = mark; is = refl; named = is; longest = longest }))

pub no_number_there : (text : List ℕ) (at end : ℕ) (word : Word) → is_ascii_digit (slice_index text at) ≡ true
    → at < end → GoesOn text (at + 1) end
    → ((number : ℕ) → number < 2 ^ 32 → SpellsNumeral (slice_range text at end) number → ⊥) → IsWordAt text at word → ⊥
no_number_there text at end word begins some whole none w =
    by_kind w.is (subst (λ (n : ℕ). is_ascii_digit (slice_index text n) ≡ true) (sym w.begins) begins)
    (subst (λ (n : ℕ). GoesOn text n end) (sym w.begins) (with_first text at end (digit_goes_on (slice_index text at) begins) whole))
  where
    by_kind : IsWordOf text word → is_ascii_digit (slice_index text word.start) ≡ true → GoesOn text word.start end → ⊥
    by_kind (inl h) digit goes = letter_no_digit (slice_index text word.start) h.begins digit
    by_kind (inr (inl h)) digit goes =
        let low = w.some in
        let from = w.begins in
        let same = goes_on_once text word.start word.end end (omega (arith, low)) (omega (arith, from, some)) h.whole goes in
        none h.number h.spelled.1
        (subst (λ (n : ℕ). SpellsNumeral (slice_range text n end) h.number) w.begins
        (subst (λ (n : ℕ). SpellsNumeral (slice_range text word.start n) h.number) same h.spelled.0))
    by_kind (inr (inr h)) digit goes = not_true (is_ascii_digit (slice_index text word.start)) (sign_at text word.start word.end h.mark w.some h.named).1 digit

pub no_sign_there : (text : List ℕ) (at : ℕ) (word : Word) → begins_name (slice_index text at) ≡ false
    → is_ascii_digit (slice_index text at) ≡ false
    → ((mark : Mark) → (end : ℕ) → end ≤ length text → IsSignNamed (slice_range text at end) mark → ⊥)
    → IsWordAt text at word → ⊥
no_sign_there text at word no_name no_digit none w =
    by_kind w.is (subst (λ (n : ℕ). begins_name (slice_index text n) ≡ false) (sym w.begins) no_name)
    (subst (λ (n : ℕ). is_ascii_digit (slice_index text n) ≡ false) (sym w.begins) no_digit)
  where
    by_kind : IsWordOf text word → begins_name (slice_index text word.start) ≡ false
        → is_ascii_digit (slice_index text word.start) ≡ false → ⊥
    by_kind (inl h) no_letter no_number = not_true (begins_name (slice_index text word.start)) no_letter h.begins
    by_kind (inr (inl h)) no_letter no_number = not_true (is_ascii_digit (slice_index text word.start)) no_number h.begins
    by_kind (inr (inr h)) no_letter no_number =
        none h.mark word.end w.inside (subst (λ (n : ℕ). IsSignNamed (slice_range text n word.end) h.mark) w.begins h.named)

-- which sign is the longest
pub within_three : (text : List ℕ) (at end : ℕ) (mark : Mark) → end ≤ length text
    → IsSignNamed (slice_range text at end) mark → (at < end) × (end ≤ at + 3)
within_three text at end mark inside is =
    let of = sign_is (slice_range text at end) mark is in
    let long = part_length text at end inside in
    let some = of.some in
    let short = of.short in (omega (arith, some, long), omega (arith, short, long))

pub shorter_by_one : (text : List ℕ) (at count end : ℕ) (mark : Mark)
    → ((other : Mark) → at + (count + 1) ≤ length text → IsSignNamed (slice_range text at (at + (count + 1))) other → ⊥)
    → end ≤ length text → IsSignNamed (slice_range text at end) mark → end ≤ at + (count + 1) → end ≤ at + count
shorter_by_one text at count end mark none inside is most = by_order (cases_order end (at + (count + 1)))
  where
    by_order : (end ≡ at + (count + 1)) ⊎ ((end < at + (count + 1)) ⊎ (at + (count + 1) < end)) → end ≤ at + count
    by_order (inl same) =
        absurd (none mark (omega (arith, same, inside))
        (subst (λ (n : ℕ). IsSignNamed (slice_range text at n) mark) same is))
    by_order (inr (inl less)) = omega (arith, less)
    by_order (inr (inr more)) = absurd (omega (arith, more, most))

pub under_three : (text : List ℕ) (at end : ℕ) (mark : Mark)
    → ((other : Mark) → at + 3 ≤ length text → IsSignNamed (slice_range text at (at + 3)) other → ⊥)
    → end ≤ length text → IsSignNamed (slice_range text at end) mark → end ≤ at + 2
under_three text at end mark none inside is =
    shorter_by_one text at 2 end mark none inside is (within_three text at end mark inside is).1

pub under_two : (text : List ℕ) (at end : ℕ) (mark : Mark)
    → ((other : Mark) → at + 3 ≤ length text → IsSignNamed (slice_range text at (at + 3)) other → ⊥)
    → ((other : Mark) → at + 2 ≤ length text → IsSignNamed (slice_range text at (at + 2)) other → ⊥)
    → end ≤ length text → IsSignNamed (slice_range text at end) mark → end ≤ at + 1
under_two text at end mark none none' inside is =
    shorter_by_one text at 1 end mark none' inside is (under_three text at end mark none inside is)

pub no_sign : (text : List ℕ) (at end : ℕ) (mark : Mark)
    → ((other : Mark) → at + 3 ≤ length text → IsSignNamed (slice_range text at (at + 3)) other → ⊥)
    → ((other : Mark) → at + 2 ≤ length text → IsSignNamed (slice_range text at (at + 2)) other → ⊥)
    → ((other : Mark) → at + 1 ≤ length text → IsSignNamed (slice_range text at (at + 1)) other → ⊥)
    → end ≤ length text → IsSignNamed (slice_range text at end) mark → ⊥
no_sign text at end mark none none' none'' inside is =
    let most = shorter_by_one text at 0 end mark none'' inside is (under_two text at end mark none none' inside is) in
    let some = (within_three text at end mark inside is).0 in omega (arith, most, some)

-- what follows from what a clause says where there is none, or a refusal
pub if_none_then : {X : Type 0} (r : Option X) {P Q : Type 0} → IfNone r P → (P → Q) → IfNone r Q
if_none_then None h follows = follows h
if_none_then (Some x) h follows = tt

pub if_err_then : {X E : Type 0} (r : Result X E) {P Q : E → Type 0} → IfErr r P → ((e : E) → P e → Q e) → IfErr r Q
if_err_then (Ok x) h follows = tt
if_err_then (Err e) h follows = follows e h

-- a number that is spelled in neither way
pub no_numeral : (text : List ℕ) → ((number : ℕ) → number < 2 ^ 32 → SpellsDigits 10 text number → ⊥)
    → ((digits : List ℕ) → IsHexadecimal text digits → ⊥) → (number : ℕ) → number < 2 ^ 32 → SpellsNumeral text number → ⊥
no_numeral text none none' number small (inl h) = none number small h
no_numeral text none none' number small (inr (digits, is, h)) = none' digits is
