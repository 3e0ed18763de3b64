-- Words and what stands between them, one more at each turn.
use Rattle.std.proofs.Common.{◌≡◌, ℕ, ◌+◌, ◌-◌, ◌<◌, ◌≤◌, arith, List, [], ◌∷◌, ◌++◌, length, sym, ap, ◌∙◌, subst, refl, inl, inr, append_assoc, append-nil}
use Rattle.litmus_words.specs.declared.word.Word.{Word}
use Rattle.litmus_words.specs.Comments.{IsRestOf, closes_last, closes, Closes}
use Rattle.litmus_words.specs.Gaps.{IsGap, IsGapEnd, nothing, blank, comment, StandFrom}
use Rattle.litmus_words.specs.Words.{IsWordAt, IsWordOf}
use Rattle.litmus_words.proofs.{Ending.gap_at_end, Ending.gap_is_over, Once.no_gap_at_word, Once.same_word}

joined : (text : List ℕ) (a b c : ℕ) → IsGap text a b → IsGap text b c → IsGap text a c
joined text a b c (nothing at) k = k
joined text a b c (blank at to white rest) k = blank a c white (joined text (a + 1) b c rest k)
joined text a b c (comment at behind to opens inside rest) k =
    comment a behind c opens inside (joined text behind b c rest k)

-- words that stand behind a gap
behind_gap : (text : List ℕ) (from at : ℕ) (words : List Word) → IsGap text from at → StandFrom text at words
    → StandFrom text from words
behind_gap text from at [] gap stand = joined text from at (length text) gap stand
behind_gap text from at (word ∷ words) gap stand =
    (joined text from at word.start gap stand.0, stand.1, stand.2, stand.3, stand.4)

pub first_word : (text : List ℕ) (from at : ℕ) → IsGap text from at → (more : List Word) → StandFrom text at more
    → StandFrom text from more
first_word text from at gap more stand = behind_gap text from at more gap stand

pub next_word : (text : List ℕ) (from at next : ℕ) (before after : List Word) (word : Word)
    → ((more : List Word) → StandFrom text at more → StandFrom text from (before ++ more))
    → word.start ≡ at → at < word.end → word.end ≤ length text → IsWordOf text word → IsGap text word.end next
    → after ≡ before ++ word ∷ []
    → (more : List Word) → StandFrom text next more → StandFrom text from (after ++ more)
next_word text from at next before after word so_far begins some inside spelled gap is more stand =
    subst (StandFrom text from)
    (sym (append_assoc before (word ∷ []) more) ∙ ap (λ (t : List Word). t ++ more) (sym is))
    (so_far (word ∷ more) (
      subst (IsGap text at) (sym begins) (nothing at),
      subst (λ (n : ℕ). n < word.end) (sym begins) some,
      inside,
      spelled,
      behind_gap text word.end next more gap stand,
    ))

-- the text is over
pub last_word : (text : List ℕ) (from at : ℕ) (words : List Word) → at ≡ length text
    → ((more : List Word) → StandFrom text at more → StandFrom text from (words ++ more)) → StandFrom text from words
last_word text from at words over so_far =
    subst (StandFrom text from) (append-nil words) (so_far [] (subst (IsGap text at) over (nothing at)))

-- comments in one another, closed
pub ends_rest : (text : List ℕ) (depth at : ℕ) → 1 ≤ depth → depth ≤ 1 → Closes text at
    → IsRestOf text depth at (at + 2)
ends_rest text depth at some most here =
    let one : 1 ≡ depth = omega (arith, some, most) in
    subst (λ (d : ℕ). IsRestOf text d at (at + 2)) one (closes_last at here)

pub closes_one : (text : List ℕ) (depth at to : ℕ) → 1 < depth → Closes text at
    → IsRestOf text (depth - 1) (at + 2) to → IsRestOf text depth at to
closes_one text depth at to more here rest =
    let same : depth - 1 + 1 ≡ depth = omega (arith, more) in
    let some : 1 ≤ depth - 1 = omega (arith, more) in
    subst (λ (d : ℕ). IsRestOf text d at to) same (closes (depth - 1) at to some here rest)

-- where the words that stand from a byte on begin, or the text ends
pub first_end : (text : List ℕ) (from : ℕ) (words : List Word) → StandFrom text from words
    → (to : ℕ) × IsGap text from to × IsGapEnd text to
first_end text from [] stand = (length text, stand, inl refl)
first_end text from (word ∷ words) stand = (word.start, stand.0, no_gap_at_word text word stand.1 stand.3)

-- they stand from there on
pub moved : (text : List ℕ) (from at : ℕ) (words : List Word) → StandFrom text from words
    → ((to : ℕ) → IsGap text from to → IsGapEnd text to → at ≡ to) → StandFrom text at words
moved text from at [] stand only =
    subst (λ (n : ℕ). IsGap text n (length text)) (sym (only (length text) stand (inl refl))) (nothing (length text))
moved text from at (word ∷ words) stand only = (
  subst (λ (n : ℕ). IsGap text n word.start) (sym (only word.start stand.0 (no_gap_at_word text word stand.1 stand.3)))
      (nothing word.start),
  stand.1,
  stand.2,
  stand.3,
  stand.4,
)

-- of all words these are left behind those so far
pub record IsLeft (text : List ℕ) (at : ℕ) (so_far all : List Word) : Type 0 where
  pub rest : List Word
  pub is : all ≡ so_far ++ rest
  pub stand : StandFrom text at rest

gap_from_end : (text : List ℕ) (at to : ℕ) → IsGapEnd text at → IsGap text at to → at ≡ to
gap_from_end text at to (inl over) gap = gap_at_end text at to (omega (arith, over)) gap
gap_from_end text at to (inr begins) gap = gap_is_over text at to begins.0 begins.1 gap

-- the next of them, with those behind it
next_left : (text : List ℕ) (at : ℕ) (so_far all rest : List Word) → at < length text → IsGapEnd text at
    → all ≡ so_far ++ rest → StandFrom text at rest
    → (word : Word) × (more : List Word) × IsWordAt text at word × (all ≡ so_far ++ word ∷ more)
    × StandFrom text word.end more
next_left text at so_far all [] inside end is stand =
    let over = gap_from_end text at (length text) end stand in absurd (omega (arith, inside, over))
next_left text at so_far all (word ∷ more) inside end is stand = (
  word,
  more,
  record {
    begins = sym (gap_from_end text at word.start end stand.0);
    some = stand.1;
    inside = stand.2;
    is = stand.3;
  },
  is,
  stand.4,
)

pub one_less : (text : List ℕ) (at next : ℕ) (so_far after all : List Word) (word : Word) → at < length text
    → IsGapEnd text at → word.start ≡ at → at < word.end → word.end ≤ length text → IsWordOf text word
    → ((to : ℕ) → IsGap text word.end to → IsGapEnd text to → next ≡ to) → after ≡ so_far ++ word ∷ []
    → IsLeft text at so_far all → IsLeft text next after all
one_less text at next so_far after all word inside end begins some within is only pushed h =
    let n = next_left text at so_far all h.rest inside end h.is h.stand in
    let here : IsWordAt text at word = record {
      begins = begins;
      some = subst (λ (k : ℕ). k < word.end) (sym begins) some;
      inside = within;
      is = is;
    } in
    let same = same_word text at word n.0 here n.2 in
    record {
      rest = n.1;
      is = n.3 ∙ ap (λ (w : Word). so_far ++ w ∷ n.1) (sym same) ∙ sym (append_assoc so_far (word ∷ []) n.1)
          ∙ ap (λ (t : List Word). t ++ n.1) (sym pushed);
      stand = moved text word.end next n.1
          (subst (λ (w : Word). StandFrom text w.end n.1) (sym same) n.4) only;
    }

-- a word that isn't found, or a comment behind it that doesn't end
pub none_left : (text : List ℕ) (at : ℕ) (so_far all : List Word) → at < length text → IsGapEnd text at
    → ((word : Word) → IsWordAt text at word → ⊥) → IsLeft text at so_far all → ⊥
none_left text at so_far all inside end none h =
    let n = next_left text at so_far all h.rest inside end h.is h.stand in none n.0 n.2

pub goes_behind : (text : List ℕ) (at : ℕ) (so_far all : List Word) (word : Word) → at < length text → IsGapEnd text at
    → word.start ≡ at → at < word.end → word.end ≤ length text → IsWordOf text word → IsLeft text at so_far all
    → (to : ℕ) × IsGap text word.end to × IsGapEnd text to
goes_behind text at so_far all word inside end begins some within is h =
    let n = next_left text at so_far all h.rest inside end h.is h.stand in
    let here : IsWordAt text at word = record {
      begins = begins;
      some = subst (λ (k : ℕ). k < word.end) (sym begins) some;
      inside = within;
      is = is;
    } in
    let same = same_word text at word n.0 here n.2 in
    first_end text word.end n.1 (subst (λ (w : Word). StandFrom text w.end n.1) (sym same) n.4)

-- at the end none is left
pub all_found : (text : List ℕ) (at : ℕ) (so_far all rest : List Word) → length text ≤ at → all ≡ so_far ++ rest
    → StandFrom text at rest → so_far ≡ all
all_found text at so_far all [] over is stand = sym (is ∙ append-nil so_far)
all_found text at so_far all (word ∷ more) over is stand =
    let same = gap_at_end text at word.start over stand.0 in
    let some = stand.1 in
    let inside = stand.2 in absurd (omega (arith, same, over, some, inside))
