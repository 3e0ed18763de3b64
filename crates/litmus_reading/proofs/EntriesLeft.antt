-- Entries read one behind the other: those that are left, and what is read next of them.
use Rattle.std.proofs.Common.{◌≡◌, ◌<◌, List, [], ◌∷◌, ◌++◌, length, map, refl, sym, ap, ◌∙◌, subst, inl, inr, arith, append_assoc, append-nil}
use Rattle.std.specs.Prelude.{◌⊎◌}
use Rattle.litmus_words.specs.declared.word.Word.{Word}
use Rattle.litmus_words.specs.declared.word.Token.{Token}
use Rattle.litmus_words.specs.declared.word.Token.TheVariants.{Mark}
use Rattle.litmus_words.specs.declared.word.Mark.TheVariants as mark
use Rattle.litmus_words.specs.Tokens.{Takes, tokens}
use Rattle.litmus_words.proofs.Taking.{shorter_by, whole}
use Rattle.litmus_reading.proofs.Chains.{none_of, one_of, parts_of}
use Rattle.litmus_reading.proofs.EntryRead.{some_words}
use Rattle.litmus_reading.proofs.Placeless.{entry_moved, same_behind}
use Rattle.litmus_reading.specs.declared.start.Entry.{Entry}
use Rattle.litmus_reading.specs.Starts.{entries_none, entries_last, entries_more, AreEntries, EntryTaken, IsEnded, SayTheSame, unplaced}

pub record EntriesLeft (all found : List Entry) (words : List Word) : Type 0 where
  pub before : List Entry
  pub others : List Entry
  pub spelled : all ≡ before ++ others
  pub same : SayTheSame found before
  pub are : AreEntries before others (tokens words)

pub all_left : (all found : List Entry) (words : List Word) → found ≡ [] → AreEntries [] all (tokens words)
    → EntriesLeft all found words
all_left all found words none are =
    record { before = []; others = all; spelled = refl; same = ap (map unplaced) none; are = are }

-- behind an entry stands nothing, or a `;` and the others
abbrev pub EntryBehind : List Entry → List Entry → List Word → Type 0
EntryBehind all found words = ((words ≡ []) × SayTheSame found all)
    ⊎ ((next : List Word) × Takes words (Mark mark.Semicolon ∷ []) next × EntriesLeft all found next)

pub record EntryNext (all found : List Entry) (words : List Word) : Type 0 where
  pub after : List Entry
  pub between : List Word
  pub taken : EntryTaken words found after between
  pub ended : IsEnded between
  pub behind : (now : List Entry) → SayTheSame now after → EntryBehind all now between

ended_so : (words rest : List Word) → Takes words (Mark mark.Semicolon ∷ []) rest → IsEnded words
ended_so [] rest takes = absurd takes.so
ended_so (word ∷ words) rest takes = takes.so.0

abbrev pub EntryOrNone : List Entry → List Entry → List Word → Type 0
EntryOrNone all found words = ((words ≡ []) × SayTheSame found all) ⊎ EntryNext all found words

next_by : (all found : List Entry) (words : List Word) (before others : List Entry) (text : List Token)
    → AreEntries before others text → tokens words ≡ text → all ≡ before ++ others → SayTheSame found before
    → EntryOrNone all found words
next_by all found words before others text (entries_none b) is spelled same =
    inl (none_of words is, same ∙ ap (map unplaced) (sym (spelled ∙ append-nil b)))
next_by all found words before others text (entries_last b entries t spells) is spelled same = inr (record {
  after = found ++ entries;
  between = [];
  taken = record {
    text = t;
    entries = entries;
    spells = entry_moved found b t entries same spells;
    added = refl;
    takes = whole words t is;
  };
  ended = tt;
  behind = λ now alike. inl (refl, alike ∙ same_behind found b entries same ∙ ap (map unplaced) (sym spelled));
})
next_by all found words before others text (entries_more b entries further t more spells are) is spelled same =
    let parts = parts_of words t (Mark mark.Semicolon ∷ more) is in
    let next = one_of parts.rest (Mark mark.Semicolon) more parts.behind in
    inr (record {
      after = found ++ entries;
      between = parts.rest;
      taken = record {
        text = t;
        entries = entries;
        spells = entry_moved found b t entries same spells;
        added = refl;
        takes = parts.takes;
      };
      ended = ended_so parts.rest next.rest next.takes;
      behind = λ now alike. inr (
        next.rest,
        next.takes,
        record {
          before = b ++ entries;
          others = further;
          spelled = spelled ∙ sym (append_assoc b entries further);
          same = alike ∙ same_behind found b entries same;
          are = subst (AreEntries (b ++ entries) further) (sym next.behind) are;
        },
      );
    })

entry_or_none : (all found : List Entry) (words : List Word) → EntriesLeft all found words
    → EntryOrNone all found words
entry_or_none all found words it =
    next_by all found words it.before it.others (tokens words) it.are refl it.spelled it.same

next_of : (all found : List Entry) (words : List Word) → (length words ≡ 0 → ⊥) → EntryOrNone all found words
    → EntryNext all found words
next_of all found words some (inl none) = absurd (some (ap length none.0))
next_of all found words some (inr next) = next

pub next_left : (all found : List Entry) (words : List Word) → EntriesLeft all found words → (length words ≡ 0 → ⊥)
    → EntryNext all found words
next_left all found words it some = next_of all found words some (entry_or_none all found words it)

nothing_of : (all found : List Entry) (words : List Word) → length words ≡ 0 → EntryOrNone all found words
    → SayTheSame found all
nothing_of all found words nothing (inl none) = none.1
nothing_of all found words nothing (inr next) =
    absurd (some_words words found next.after next.between next.taken nothing)

pub nothing_left : (all found : List Entry) (words : List Word) → EntriesLeft all found words → length words ≡ 0
    → SayTheSame found all
nothing_left all found words it nothing = nothing_of all found words nothing (entry_or_none all found words it)

-- what was read of the next of them
some_mark : (words rest : List Word) (token : Token) → Takes words (token ∷ []) rest → length words ≡ 0 → ⊥
some_mark words rest token takes nothing =
    let long = shorter_by words rest (token ∷ []) takes in absurd (omega (arith, long, nothing))

last_of : (all now : List Entry) (words : List Word) → length words ≡ 0 → EntryBehind all now words
    → SayTheSame now all
last_of all now words nothing (inl none) = none.1
last_of all now words nothing (inr more) = absurd (some_mark words more.0 (Mark mark.Semicolon) more.1 nothing)

pub last_left : (all found now : List Entry) (words behind : List Word) (next : EntryNext all found words)
    → behind ≡ next.between → SayTheSame now next.after → length behind ≡ 0 → SayTheSame now all
last_left all found now words behind next same alike nothing =
    last_of all now next.between (ap length (sym same) ∙ nothing) (next.behind now alike)

abbrev pub EntryMore : List Entry → List Entry → List Word → Type 0
EntryMore all now words =
    (next : List Word) × Takes words (Mark mark.Semicolon ∷ []) next × EntriesLeft all now next

more_of : (all now : List Entry) (words : List Word) → (length words ≡ 0 → ⊥) → EntryBehind all now words
    → EntryMore all now words
more_of all now words some (inl none) = absurd (some (ap length none.0))
more_of all now words some (inr more) = more

pub more_left : (all found now : List Entry) (words behind : List Word) (next : EntryNext all found words)
    → behind ≡ next.between → SayTheSame now next.after → (length behind ≡ 0 → ⊥) → EntryMore all now behind
more_left all found now words behind next same alike some =
    more_of all now behind some
    (subst (EntryBehind all now) (sym same) (next.behind now alike))

pub rest_left : (all now : List Entry) (words rest : List Word) (more : EntryMore all now words) → rest ≡ more.0
    → EntriesLeft all now rest
rest_left all now words rest more same = subst (EntriesLeft all now) (sym same) more.2

pub less_left : (words behind next : List Word) (text : List Token) → Takes words text behind
    → length next < length behind → length next < length words
less_left words behind next text takes less =
    let long = shorter_by words behind text takes in omega (arith, long, less)
