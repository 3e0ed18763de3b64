-- What stands before the braces is read in one way.
use Rattle.std.proofs.Common.{◌≡◌, ◌≢◌, ◌⊎◌, ℕ, ◌+◌, ◌-◌, ◌<◌, ◌≤◌, Bool, true, false, List, length, drop, length-take, refl, sym, ap, ◌∙◌, subst, inl, inr, arith}
use Rattle.std.specs.Prelude.{slice_index, slice_range, codes, eqb, not}
use Rattle.std.specs.Cmp.Lexicographic.{pointwise}
use Rattle.std.specs.Char.{is_ascii_whitespace}
use Rattle.std.proofs.lemmas.Bool.{cases_lt, cases_order}
use Rattle.litmus_words.specs.Words.{GoesOn, is_of_name}
use Rattle.litmus_words.proofs.Ending.{inside_text, not_true}
use Rattle.litmus_reading.specs.Heads.{IsHeadOf, IsKeyLine, IsLineTo, IsMetadata, IsPart, IsString, IsTrimmed, IsWholeGap, LacksByte, metadata_over, metadata_part}

-- a name ends at one byte
pub goes_on_once : (text : List ℕ) (from one other : ℕ) → from ≤ one → from ≤ other → GoesOn text from one
    → GoesOn text from other → one ≡ other
goes_on_once text from one other here there a b = by_order (cases_order one other)
  where
    by_order : (one ≡ other) ⊎ ((one < other) ⊎ (other < one)) → one ≡ other
    by_order (inl same) = same
    by_order (inr (inl less)) = absurd (not_true (is_of_name (slice_index text one)) a.ends (b.each one here less))
    by_order (inr (inr more)) = absurd (not_true (is_of_name (slice_index text other)) b.ends (a.each other there more))

-- so does a line
no_line_on : (text : List ℕ) (from one other : ℕ) → one < other → IsLineTo text from one → IsLineTo text from other → ⊥
no_line_on text from one other less a b = by_end a.ends
  where
    by_end : (one ≡ length text) ⊎ (slice_index text one ≡ 10) → ⊥
    by_end (inl over) = let inside = b.inside in absurd (omega (arith, over, inside, less))
    by_end (inr ends) = b.one one a.on less ends

pub line_once : (text : List ℕ) (from one other : ℕ) → IsLineTo text from one → IsLineTo text from other → one ≡ other
line_once text from one other a b = by_order (cases_order one other)
  where
    by_order : (one ≡ other) ⊎ ((one < other) ⊎ (other < one)) → one ≡ other
    by_order (inl same) = same
    by_order (inr (inl less)) = absurd (no_line_on text from one other less a b)
    by_order (inr (inr more)) = absurd (no_line_on text from other one more b a)

-- what stands between blanks begins and ends at one byte
no_start_on : (text : List ℕ) (from to start end start' end' : ℕ) → start < start' → start < end
    → IsTrimmed text from to start end → IsTrimmed text from to start' end' → ⊥
no_start_on text from to start end start' end' less some a b =
    not_true (is_ascii_whitespace (slice_index text start)) (a.begins some) (b.before start a.on less)

no_end_on : (text : List ℕ) (from to start end start' end' : ℕ) → end < end' → start' < end'
    → IsTrimmed text from to start end → IsTrimmed text from to start' end' → ⊥
no_end_on text from to start end start' end' less some a b =
    let inside = b.inside in
    not_true (is_ascii_whitespace (slice_index text (end' - 1))) (b.ends some)
    (a.behind (end' - 1) (omega (arith, less)) (omega (arith, less, inside)))

pub some_trimmed : (text : List ℕ) (from to start end start' end' : ℕ) → IsTrimmed text from to start end
    → IsTrimmed text from to start' end' → start' < end' → start < end
some_trimmed text from to start end start' end' a b some = by_order (cases_lt start end)
  where
    by_place : (start' < start) ⊎ (start ≤ start') → end ≤ start → ⊥
    by_place (inl before) none =
        not_true (is_ascii_whitespace (slice_index text start')) (b.begins some) (a.before start' b.on before)
    by_place (inr behind) none =
        let inside = b.inside in
        not_true (is_ascii_whitespace (slice_index text start')) (b.begins some)
        (a.behind start' (omega (arith, behind, none)) (omega (arith, some, inside)))

    by_order : (start < end) ⊎ (end ≤ start) → start < end
    by_order (inl less) = less
    by_order (inr none) = absurd (by_place (cases_lt start' start) none)

pub trimmed_once : (text : List ℕ) (from to start end start' end' : ℕ) → IsTrimmed text from to start end
    → IsTrimmed text from to start' end' → start' < end' → (start ≡ start') × (end ≡ end')
trimmed_once text from to start end start' end' a b some' =
    let some = some_trimmed text from to start end start' end' a b some' in
    (by_start some (cases_order start start'), by_end (cases_order end end'))
  where
    by_start : start < end → (start ≡ start') ⊎ ((start < start') ⊎ (start' < start)) → start ≡ start'
    by_start some (inl same) = same
    by_start some (inr (inl less)) = absurd (no_start_on text from to start end start' end' less some a b)
    by_start some (inr (inr more)) = absurd (no_start_on text from to start' end' start end more some' b a)

    by_end : (end ≡ end') ⊎ ((end < end') ⊎ (end' < end)) → end ≡ end'
    by_end (inl same) = same
    by_end (inr (inl less)) = absurd (no_end_on text from to start end start' end' less some' a b)
    by_end (inr (inr more)) =
        let some = some_trimmed text from to start end start' end' a b some' in
        absurd (no_end_on text from to start' end' start end more some b a)

-- a string ends at its first quotation mark
pub string_ends : (text : List ℕ) (from at to : ℕ) → from + 1 ≤ at → LacksByte text 34 (from + 1) at
    → slice_index text at ≡ 34 → IsString text from to → at + 1 ≡ to
string_ends text from at to on lacks closes it = ap (λ (n : ℕ). n + 1) (by_order (cases_order at it.last)) ∙ sym it.behind
  where
    by_order : (at ≡ it.last) ⊎ ((at < it.last) ⊎ (it.last < at)) → at ≡ it.last
    by_order (inl same) = same
    by_order (inr (inl less)) = absurd (it.inside at on less closes)
    by_order (inr (inr more)) =
        let after = it.after in absurd (lacks it.last (omega (arith, after)) more it.closes)

pub no_string : (text : List ℕ) (from at to : ℕ) → length text ≤ at → LacksByte text 34 (from + 1) at
    → IsString text from to → ⊥
no_string text from at to over lacks it =
    let inside = inside_text text it.last 34 it.closes (omega arith) in
    let after = it.after in
    lacks it.last (omega (arith, after)) (omega (arith, inside, over)) it.closes

-- a line `Key=..` begins with a byte of a name
first_of_key : (text : List ℕ) (from to : ℕ) → IsKeyLine text from to → is_of_name (slice_index text from) ≡ true
first_of_key text from to it = it.whole.each from (omega arith) it.key

no_key_at : (text : List ℕ) (from to byte : ℕ) → slice_index text from ≡ byte → is_of_name byte ≡ false
    → IsKeyLine text from to → ⊥
no_key_at text from to byte is other it =
    not_true (is_of_name byte) other (sym (ap is_of_name is) ∙ first_of_key text from to it)

pub key_end : (text : List ℕ) (from end to : ℕ) → from ≤ end → GoesOn text from end → (it : IsKeyLine text from to)
    → end ≡ it.equals
key_end text from end to on whole it =
    let key = it.key in goes_on_once text from end it.equals on (omega (arith, key)) whole it.whole

pub some_key : (text : List ℕ) (from end to : ℕ) → from ≤ end → GoesOn text from end → IsKeyLine text from to
    → (from < end) × (end < length text) × (slice_index text end ≡ 61)
some_key text from end to on whole it =
    let same = key_end text from end to on whole it in
    let sign : slice_index text end ≡ 61 = ap (slice_index text) same ∙ it.sign in
    let key = it.key in
    (omega (arith, same, key), inside_text text end 61 sign (omega arith), sign)

pub key_line : (text : List ℕ) (from end line to : ℕ) → from ≤ end → GoesOn text from end → IsLineTo text end line
    → IsKeyLine text from to → line ≡ to
key_line text from end line to on whole ends it =
    line_once text end line to ends
    (subst (λ (n : ℕ). IsLineTo text n to) (sym (key_end text from end to on whole it)) it.line)

-- a string and a line `Key=..`
pub quoted_part : (text : List ℕ) (may_quote left : Bool) (at behind : ℕ) → slice_index text at ≡ 34
    → IsPart text may_quote at left behind → (left ≡ false) × IsString text at behind
quoted_part text may_quote left at behind opens (inl string) = (string.1, string.2)
quoted_part text may_quote left at behind opens (inr line) = absurd (no_key_at text at behind 34 opens refl line.1)

pub key_part : (text : List ℕ) (may_quote left : Bool) (at behind : ℕ)
    → (may_quote ≡ true → slice_index text at ≡ 34 → ⊥) → IsPart text may_quote at left behind
    → (left ≡ may_quote) × IsKeyLine text at behind
key_part text may_quote left at behind other (inl string) = absurd (other string.0 string.2.opens)
key_part text may_quote left at behind other (inr line) = line

no_part : (text : List ℕ) (may_quote left : Bool) (at behind : ℕ)
    → (at ≡ length text) ⊎ (slice_index text at ≡ 123) → IsPart text may_quote at left behind → ⊥
no_part text may_quote left at behind (inl over) (inl string) =
    let inside = inside_text text at 34 string.2.opens (omega arith) in absurd (omega (arith, inside, over))
no_part text may_quote left at behind (inr brace) (inl string) =
    let opens = string.2.opens in absurd (omega (arith, brace, opens))
no_part text may_quote left at behind (inl over) (inr line) =
    let key = (some_key text at line.1.equals behind (omega (arith, line.1.key)) line.1.whole line.1) in
    absurd (omega (arith, key.0, key.1, over))
no_part text may_quote left at behind (inr brace) (inr line) = no_key_at text at behind 123 brace refl line.1

-- the parts, each in turn
pub record IsLeftOf (text : List ℕ) (may_quote : Bool) (at to : ℕ) : Type 0 where
  pub left : Bool
  pub behind : ℕ
  pub next : ℕ
  pub part : IsPart text may_quote at left behind
  pub gap : IsWholeGap text behind next
  pub others : IsMetadata text left next to

pub next_part : (text : List ℕ) (may_quote : Bool) (at to : ℕ) → at < length text → slice_index text at ≢ 123
    → IsMetadata text may_quote at to → IsLeftOf text may_quote at to
next_part text may_quote at to inside other (metadata_over quote place (inl over)) = absurd (omega (arith, inside, over))
next_part text may_quote at to inside other (metadata_over quote place (inr brace)) = absurd (other brace)
next_part text may_quote at to inside other (metadata_part quote left place behind next last part gap others) =
    record { left = left; behind = behind; next = next; part = part; gap = gap; others = others }

pub no_more : (text : List ℕ) (may_quote : Bool) (at to : ℕ) → (at ≡ length text) ⊎ (slice_index text at ≡ 123)
    → IsMetadata text may_quote at to → at ≡ to
no_more text may_quote at to over (metadata_over quote place there) = refl
no_more text may_quote at to over (metadata_part quote left place behind next last part gap others) =
    absurd (no_part text may_quote left at behind over part)

pub behind_part : (text : List ℕ) (may_quote left : Bool) (at behind next to : ℕ) (it : IsLeftOf text may_quote at to)
    → (behind ≡ it.behind) × (left ≡ it.left)
    → ((n : ℕ) → IsWholeGap text behind n → next ≡ n) → IsMetadata text left next to
behind_part text may_quote left at behind next to it same gap =
    let there = gap it.next (subst (λ (n : ℕ). IsWholeGap text n it.next) (sym same.0) it.gap) in
    subst (λ (b : Bool). IsMetadata text b next to) (sym same.1)
    (subst (λ (n : ℕ). IsMetadata text it.left n to) (sym there) it.others)

-- the name, behind the word
long_word : (text : List ℕ) (from to : ℕ) → slice_range text from to ≡ codes "RISCV" → from ≤ to
long_word text from to is =
    let long : length (slice_range text from to) ≡ 5 = ap (λ (t : List ℕ). length t) is in
    let most = length-take (to - from) (drop from text) in
    omega (arith, long, most)

pub same_word : (part other : List ℕ) (differs : Bool) → differs ≡ not (pointwise eqb part other)
    → differs ≡ true → other ≡ codes "RISCV" → part ≡ codes "RISCV" → ⊥
same_word part other differs is truth there here =
    not_true differs
    (is ∙ ap (λ (t : List ℕ). not (pointwise eqb t other)) here
    ∙ ap (λ (t : List ℕ). not (pointwise eqb (codes "RISCV") t)) there) truth

module _ (text name : List ℕ) (braces at end : ℕ) (it : IsHeadOf text name braces) (begins : at ≡ it.begin)
    (on : at ≤ end) (whole : GoesOn text at end) where
  word_end : end ≡ it.behind
  word_end =
      goes_on_once text it.begin end it.behind (omega (arith, begins, on))
      (long_word text it.begin it.behind it.word) (subst (λ (n : ℕ). GoesOn text n end) begins whole) it.whole

  pub word_there : slice_range text at end ≡ codes "RISCV"
  word_there = ap (λ (n : ℕ). slice_range text n end) begins ∙ ap (slice_range text it.begin) word_end ∙ it.word

  pub name_there : (line start last : ℕ) → IsLineTo text end line → IsTrimmed text end line start last
      → (start ≡ it.start) × (last ≡ it.end) × (start < last)
  name_there line start last ends trimmed =
      let one_line = subst (λ (n : ℕ). IsLineTo text n it.line) (sym word_end) it.one_line in
      let same = line_once text end line it.line ends one_line in
      let other = subst (λ (n : ℕ). IsTrimmed text end n it.start it.end) (sym same)
      (subst (λ (n : ℕ). IsTrimmed text n it.line it.start it.end) (sym word_end) it.trimmed) in
      let parts = trimmed_once text end line start last it.start it.end trimmed other it.some in
      (parts.0, parts.1, some_trimmed text end line start last it.start it.end trimmed other it.some)
