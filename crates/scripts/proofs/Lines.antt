-- Lines of words are a script of the words.
use Rattle.std.proofs.Common.{◌≡◌, ℕ, ◌<◌, ◌≤◌, ◌^◌, Bool, true, false}
use Rattle.std.proofs.Common.{List, [], ◌∷◌, ◌++◌, length, map, flat_map, filter}
use Rattle.std.proofs.Common.{nat_lt, refl, sym, ap, subst, ◌∙◌, inl, inr, append_assoc, arith}
use Rattle.std.specs.Prelude.{◌==◌, if◌then◌else◌}
use Rattle.std.specs.{Fmt.decimal, List.All, List.AllZip, List.AllByRecursion, List.slice_split}
use Rattle.std.proofs.{lemmas.Bool.Decides.nat_tests, lemmas.Fmt.digits_decimal, lemmas.Str.Parse.digit_at}
use Rattle.std.proofs.lemmas.List.{get_or_default, map-append}
use Rattle.std.proofs.lemmas.List.Elements.{All-append, All-cons, All-weaker}
use Rattle.std.proofs.lemmas.List.Splits.{slice_split_at}
use Rattle.numbers.specs.Sizes.{most_actors, most_harts}
use Rattle.scripts.specs.{declared.actions.Action.Action, declared.actions.ScriptWord.ScriptWord}
use Rattle.scripts.specs.declared.actions.Action.TheVariants as action
use Rattle.scripts.specs.Script.{action_text, is_separator, pieces, IsInRange, IsScript, SpellsWord}
use Rattle.scripts.specs.Lines.{IsWord, word_text, spaced_text, line_text, words_in}
use Rattle.scripts.proofs.Decimals.{own}

-- ---- A word's text has no separator

abbrev IsHigh : ℕ → Type 0
IsHigh byte = 42 ≤ byte

no_separator : (byte : ℕ) → IsHigh byte → is_separator byte ≡ false
no_separator byte high = grind (arith, nat_tests)

high_decimal : (n : ℕ) → n < 2 ^ 64 → All IsHigh (decimal n)
high_decimal n small = λ k d inside.
    let range = digit_at (decimal n) k (digits_decimal own n small) inside in
    omega (arith, range.0, get_or_default (decimal n) k d 0 inside)

high_one : (letter actor : ℕ) → 42 ≤ letter → actor < most_actors → All IsHigh (letter ∷ decimal actor)
high_one letter actor high small = All-cons IsHigh letter (decimal actor) high (high_decimal actor (omega arith))

high_two : (letter actor hart : ℕ) → 42 ≤ letter → actor < most_actors → hart < most_harts
    → All IsHigh (letter ∷ (decimal actor ++ 46 ∷ decimal hart))
high_two letter actor hart high small few =
    All-cons IsHigh letter (decimal actor ++ 46 ∷ decimal hart) high
    (All-append IsHigh (decimal actor) (46 ∷ decimal hart) (high_decimal actor (omega arith))
    (All-cons IsHigh 46 (decimal hart) (omega arith) (high_decimal hart (omega arith))))

high_action : (a : Action) → IsInRange a → All IsHigh (action_text a)
high_action (action.Fetch actor) h = high_one 70 actor (omega arith) h
high_action (action.Decode actor hart) h = high_two 68 actor hart (omega arith) h.0 h.1
high_action (action.Rename actor hart) h = high_two 82 actor hart (omega arith) h.0 h.1
high_action (action.Retire actor hart) h = high_two 84 actor hart (omega arith) h.0 h.1
high_action (action.Issue actor) h = high_one 73 actor (omega arith) h
high_action (action.Complete actor) h = high_one 67 actor (omega arith) h
high_action (action.Unit actor) h = high_one 85 actor (omega arith) h

some_action : (a : Action) → 0 < length (action_text a)
some_action (action.Fetch actor) = omega arith
some_action (action.Decode actor hart) = omega arith
some_action (action.Rename actor hart) = omega arith
some_action (action.Retire actor hart) = omega arith
some_action (action.Issue actor) = omega arith
some_action (action.Complete actor) = omega arith
some_action (action.Unit actor) = omega arith

-- a word's text, by whether it is made once
abbrev text_by : Bool → List ℕ → ℕ → List ℕ
text_by once text n = if once then text else text ++ 42 ∷ decimal n

high_by : (once : Bool) (text : List ℕ) (n : ℕ) → n ≤ 100000 → All IsHigh text → All IsHigh (text_by once text n)
high_by true text n small high = high
high_by false text n small high =
    All-append IsHigh text (42 ∷ decimal n) high
    (All-cons IsHigh 42 (decimal n) (omega arith) (high_decimal n (omega arith)))

longer : (text more : List ℕ) → 0 < length text → 0 < length (text ++ more)
longer [] more some = absurd (omega arith)
longer (x ∷ xs) more some = omega arith

some_by : (once : Bool) (text : List ℕ) (n : ℕ) → 0 < length text → 0 < length (text_by once text n)
some_by true text n some = some
some_by false text n some = longer text (42 ∷ decimal n) some

high_word : (w : ScriptWord) → IsWord w → All IsHigh (word_text w)
high_word w is = high_by (w.repeat == 1) (action_text w.action) w.repeat is.limit (high_action w.action is.in_range)

some_word : (w : ScriptWord) → 0 < length (word_text w)
some_word w = some_by (w.repeat == 1) (action_text w.action) w.repeat (some_action w.action)

-- and spells the word

spells_by : (once : Bool) (w : ScriptWord) → (w.repeat == 1) ≡ once → IsWord w
    → SpellsWord (text_by once (action_text w.action) w.repeat) w
spells_by true w same is =
    let one : w.repeat ≡ 1 = grind (arith, nat_tests) in
    record { in_range = is.in_range; once = is.once; limit = is.limit; spelled = inr (refl, one) }
spells_by false w same is =
    record { in_range = is.in_range; once = is.once; limit = is.limit; spelled = inl refl }

spells : (w : ScriptWord) → IsWord w → SpellsWord (word_text w) w
spells w is = spells_by (w.repeat == 1) w refl is

-- ---- The pieces of lines

no_pieces : pieces [] ≡ []
unfolding pieces
no_pieces = refl

skip : (rest : List ℕ) → pieces (10 ∷ rest) ≡ pieces rest
unfolding pieces
skip rest = refl

kept : (piece : List ℕ) (more : List (List ℕ)) → 0 < length piece →
    filter (λ p. nat_lt 0 (length p)) (piece ∷ more) ≡ piece ∷ filter (λ p. nat_lt 0 (length p)) more
kept piece more some = grind (arith, nat_tests)

cut : (text rest : List ℕ) (separator : ℕ) → All IsHigh text → 0 < length text → is_separator separator ≡ true
    → pieces (text ++ separator ∷ rest) ≡ text ∷ pieces rest
unfolding pieces
cut text rest separator high some is =
    rw (slice_split_at is_separator text separator rest
    (All-weaker IsHigh (λ byte. is_separator byte ≡ false) no_separator text high) is)
    (kept text (slice_split is_separator rest) some)

-- what stands behind the first word of a line: the other words, the newline and the other lines
abbrev behind : List ScriptWord → List ℕ → List ℕ
behind others rest = flat_map spaced_text others ++ 10 ∷ rest

behind_more : (v : ScriptWord) (others : List ScriptWord) (rest : List ℕ)
    → behind (v ∷ others) rest ≡ 32 ∷ (word_text v ++ behind others rest)
behind_more v others rest =
    ap (λ t. 32 ∷ t) (append_assoc (word_text v) (flat_map spaced_text others) (10 ∷ rest))

words_pieces : (w : ScriptWord) (others : List ScriptWord) (rest : List ℕ) → IsWord w → AllByRecursion IsWord others
    → pieces (word_text w ++ behind others rest) ≡ word_text w ∷ (map word_text others ++ pieces rest)
words_pieces w [] rest is all = cut (word_text w) rest 10 (high_word w is) (some_word w) refl
words_pieces w (v ∷ others) rest is all =
    ap (λ t. pieces (word_text w ++ t)) (behind_more v others rest)
    ∙ (cut (word_text w) (word_text v ++ behind others rest) 32 (high_word w is) (some_word w) refl
    ∙ ap (λ ps. word_text w ∷ ps) (words_pieces v others rest all.0 all.1))

line_pieces : (words : List ScriptWord) (rest : List ℕ) → AllByRecursion IsWord words
    → pieces (line_text words ++ rest) ≡ map word_text words ++ pieces rest
line_pieces [] rest all = skip rest
line_pieces (w ∷ others) rest all =
    ap pieces (append_assoc (word_text w) (flat_map spaced_text others ++ 10 ∷ []) rest)
    ∙ (ap (λ t. pieces (word_text w ++ t)) (append_assoc (flat_map spaced_text others) (10 ∷ []) rest)
    ∙ words_pieces w others rest all.0 all.1)

all_pieces : (lines : List (List ScriptWord)) → AllByRecursion (AllByRecursion IsWord) lines
    → pieces (flat_map line_text lines) ≡ map word_text (words_in lines)
all_pieces [] all = no_pieces
all_pieces (words ∷ lines) all =
    line_pieces words (flat_map line_text lines) all.0
    ∙ (ap (λ ps. map word_text words ++ ps) (all_pieces lines all.1)
    ∙ sym (map-append word_text words (words_in lines)))

-- ---- Together

spelled_all : (words : List ScriptWord) → AllByRecursion IsWord words → AllZip SpellsWord (map word_text words) words
spelled_all [] all = tt
spelled_all (w ∷ others) all = (spells w all.0, spelled_all others all.1)

all_words : (words others : List ScriptWord) → AllByRecursion IsWord words → AllByRecursion IsWord others
    → AllByRecursion IsWord (words ++ others)
all_words [] others all more = more
all_words (w ∷ words) others all more = (all.0, all_words words others all.1 more)

all_in_lines : (lines : List (List ScriptWord)) → AllByRecursion (AllByRecursion IsWord) lines
    → AllByRecursion IsWord (words_in lines)
all_in_lines [] all = tt
all_in_lines (words ∷ lines) all = all_words words (words_in lines) all.0 (all_in_lines lines all.1)

pub lines_are_scripts : (lines : List (List ScriptWord)) → AllByRecursion (AllByRecursion IsWord) lines
    → IsScript (flat_map line_text lines) (words_in lines)
lines_are_scripts lines all =
    subst (λ ps. AllZip SpellsWord ps (words_in lines)) (sym (all_pieces lines all))
    (spelled_all (words_in lines) (all_in_lines lines all))
