-- Words of memory, one more at each turn.
use Rattle.std.proofs.Common.{◌≡◌, ℕ, suc, ◌+◌, ◌-◌, ◌<◌, ◌≤◌, List, [], ◌∷◌, ◌++◌, length, drop, get_or}
use Rattle.std.proofs.Common.{sym, ap, ◌∙◌, arith, append_assoc, append-nil, drop_of_length-le}
use Rattle.litmus_tests.specs.declared.value.Value.{Value}
use Rattle.litmus_words.specs.declared.word.Declared.{Declared}
use Rattle.litmus_reading.specs.declared.locations.Named.{Named}
use Rattle.litmus_reading.specs.declared.start.Entry.{Entry}
use Rattle.litmus_reading.specs.Memory.{memory_of, words_of, words_from, word_at}
use Rattle.litmus_reading.proofs.Naming.{drop_here}

pub words_told : (entries : List Entry) (names : List Named) (i : ℕ) (d : Named) (all before after : List Value)
    → i < length names → before ++ memory_of entries (drop i names) ≡ all
    → after ≡ before ++ words_of entries (get_or names i d).declared
    → after ++ memory_of entries (drop (i + 1) names) ≡ all
words_told entries names i d all before after inside so_far is =
    ap (λ (t : List Value). t ++ memory_of entries (drop (i + 1) names)) is
    ∙ append_assoc before (words_of entries (get_or names i d).declared) (memory_of entries (drop (i + 1) names))
    ∙ ap (λ (t : List Named). before ++ memory_of entries t) (sym (drop_here names i d inside)) ∙ so_far

pub words_all : (entries : List Entry) (names : List Named) (i : ℕ) (all before : List Value) → length names ≤ i
    → before ++ memory_of entries (drop i names) ≡ all → before ≡ all
words_all entries names i all before past so_far =
    sym (append-nil before)
    ∙ ap (λ (t : List Named). before ++ memory_of entries t) (sym (drop_of_length-le names past)) ∙ so_far

pub word_more : (entries : List Entry) (declared : Declared) (count last word : ℕ) (all before after : List Value)
    (held : Value) → last ≡ count → word < last → before ++ words_from (count - word) entries declared word ≡ all
    → held ≡ word_at entries declared word → after ≡ before ++ held ∷ []
    → after ++ words_from (count - (word + 1)) entries declared (word + 1) ≡ all
word_more entries declared count last word all before after held end inside so_far at is =
    let left : count - word ≡ suc (count - (word + 1)) = omega (arith, end, inside) in
    ap (λ (t : List Value). t ++ words_from (count - (word + 1)) entries declared (word + 1)) is
    ∙ append_assoc before (held ∷ []) (words_from (count - (word + 1)) entries declared (word + 1))
    ∙ ap (λ (t : Value). before ++ t ∷ words_from (count - (word + 1)) entries declared (word + 1)) at
    ∙ ap (λ (n : ℕ). before ++ words_from n entries declared word) (sym left) ∙ so_far

pub no_word_more : (entries : List Entry) (declared : Declared) (count last word : ℕ) (all before : List Value)
    → last ≡ count → last ≤ word → before ++ words_from (count - word) entries declared word ≡ all → before ≡ all
no_word_more entries declared count last word all before end past so_far =
    let none : count - word ≡ 0 = omega (arith, end, past) in
    sym (append-nil before) ∙ ap (λ (n : ℕ). before ++ words_from n entries declared word) (sym none) ∙ so_far
