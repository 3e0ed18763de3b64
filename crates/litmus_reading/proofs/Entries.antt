-- Entries of the start, put together from what was read of them.
use Rattle.std.proofs.Common.{◌≡◌, ℕ, suc, ◌+◌, ◌-◌, ◌<◌, ◌≤◌, ◌==◌, ◌&&◌, Bool, true, false, if◌then◌else◌, List, [], ◌∷◌, ◌++◌, Option, Some, None, length}
use Rattle.std.proofs.Common.{refl, sym, ap, ◌∙◌, subst, inl, inr, arith, append_assoc, append-nil, length-append, pos_of_ne-zero}
use Rattle.litmus_tests.specs.declared.value.Value.{Value}
use Rattle.litmus_tests.specs.declared.value.Value.TheVariants as value
use Rattle.litmus_tests.specs.declared.test.RegisterStart.{RegisterStart}
use Rattle.litmus_words.specs.declared.word.{Word.Word, Declared.Declared}
use Rattle.litmus_words.specs.declared.word.Token.{Token}
use Rattle.litmus_words.specs.declared.word.Token.TheVariants.{Register as register_token, Location as location_token, Number, Mark}
use Rattle.litmus_words.specs.declared.word.Mark.TheVariants as mark
use Rattle.litmus_words.specs.Parts.{index_tokens}
use Rattle.litmus_words.specs.Tokens.{Takes, tokens}
use Rattle.litmus_words.proofs.Taking.{one_behind_another, takes_nothing}
use Rattle.litmus_reading.specs.declared.contents.Given.{Given}
use Rattle.litmus_reading.specs.declared.start.{HartStart.HartStart, Initial.Initial}
use Rattle.litmus_reading.specs.declared.start.Entry.{Entry}
use Rattle.litmus_reading.specs.declared.start.Entry.TheVariants.{Register, Location}
use Rattle.litmus_reading.specs.Fitting.{GivenValueTaken}
use Rattle.litmus_reading.specs.Names.{elements_of}
use Rattle.litmus_reading.specs.Starts.{AddedTaken, AreEntries, ContentsTaken, CountTaken, ElementsTaken, EntryTaken, GivenTaken, NameTaken, RegisterTaken}
use Rattle.litmus_reading.specs.Starts.{entries_none, entries_last, entries_more, placed, SpellsElements}
use Rattle.litmus_reading.specs.Starts.{start_in, initial_in, start_at, starts_from}

-- an entry that none is, in the same entries
pub none_of_same : (looked : List Entry → Option Value) (items slice : List Entry) (before : Option Value)
    → slice ≡ items → before ≡ looked slice → before ≡ None → looked items ≡ None
none_of_same looked items slice before same is none = ap looked (sym same) ∙ sym is ∙ none

pub of_register : (given : Given) (words a b c d rest : List Word) (start : HartStart)
    → Takes words (Number start.hart ∷ []) a → Takes a (Mark mark.Colon ∷ []) b
    → Takes b (register_token start.register ∷ []) c → 0 < start.register → Takes c (Mark mark.Equals ∷ []) d
    → GivenValueTaken given d start.value rest → RegisterTaken given words start rest
of_register given words a b c d rest start h colon r other equals v = record {
  text = Number start.hart ∷ Mark mark.Colon ∷ register_token start.register ∷ Mark mark.Equals ∷ v.text;
  spells = record { number = v.text; spelled = refl; other = other; holds = (v.spells, v.fits) };
  takes = one_behind_another words a rest (Number start.hart ∷ [])
      (Mark mark.Colon ∷ register_token start.register ∷ Mark mark.Equals ∷ v.text) h
      (one_behind_another a b rest (Mark mark.Colon ∷ [])
      (register_token start.register ∷ Mark mark.Equals ∷ v.text) colon
      (one_behind_another b c rest (register_token start.register ∷ []) (Mark mark.Equals ∷ v.text) r
      (one_behind_another c d rest (Mark mark.Equals ∷ []) v.text equals v.takes)));
}

pub register_added : (given : Given) (words rest : List Word) (before after : List Entry) (start : HartStart)
    → RegisterTaken given words start rest → start_in before start.hart start.register ≡ None
    → after ≡ before ++ Register start ∷ [] → AddedTaken given words before after rest
register_added given words rest before after start taken once is = record {
  text = taken.text;
  entries = Register start ∷ [];
  spells = inl (record { start = start; spells = taken.spells; once = once; are = refl });
  added = is;
  takes = taken.takes;
}

-- names
pub plain_name : (words rest : List Word) (declared : Declared) → Takes words (location_token declared ∷ []) rest
    → NameTaken words declared rest
plain_name words rest declared takes = record {
  text = location_token declared ∷ [];
  spells = inl refl;
  takes = takes;
}

pub bracketed_name : (words a b rest : List Word) (declared : Declared) → Takes words (Mark mark.LeftBracket ∷ []) a
    → Takes a (location_token declared ∷ []) b → Takes b (Mark mark.RightBracket ∷ []) rest
    → NameTaken words declared rest
bracketed_name words a b rest declared left name right = record {
  text = Mark mark.LeftBracket ∷ location_token declared ∷ Mark mark.RightBracket ∷ [];
  spells = inr refl;
  takes = one_behind_another words a rest (Mark mark.LeftBracket ∷ [])
      (location_token declared ∷ Mark mark.RightBracket ∷ []) left
      (one_behind_another a b rest (location_token declared ∷ []) (Mark mark.RightBracket ∷ []) name right);
}

pub location_added : (given : Given) (words between rest : List Word) (before after : List Entry)
    (declared : Declared) → NameTaken words declared between → ContentsTaken given declared between before after rest
    → initial_in before declared.first ≡ None → AddedTaken given words before after rest
location_added given words between rest before after declared name held once = record {
  text = name.text ++ held.text;
  entries = placed declared.first held.values;
  spells = inr (record {
    declared = declared;
    values = held.values;
    name = name.text;
    contents = held.text;
    spelled = refl;
    named = name.spells;
    holds = held.spells;
    once = once;
    are = refl;
  });
  added = held.added;
  takes = one_behind_another words between rest name.text held.text name.takes held.takes;
}

-- what is no array
pub one_value : (given : Given) (declared : Declared) (words behind rest : List Word) (before after : List Entry)
    (held : Value) → declared.is_array ≡ false → Takes words (Mark mark.Equals ∷ []) behind
    → GivenValueTaken given behind held rest
    → after ≡ before ++ Location (record { location = declared.first; value = held }) ∷ []
    → ContentsTaken given declared words before after rest
one_value given declared words behind rest before after held alone equals v is = record {
  text = Mark mark.Equals ∷ v.text;
  values = held ∷ [];
  spells = inl (alone, inr (v.text, held, refl, (v.spells, v.fits), refl));
  added = is;
  takes = one_behind_another words behind rest (Mark mark.Equals ∷ []) v.text equals v.takes;
}

pub no_value : (given : Given) (declared : Declared) (words : List Word) (before after : List Entry)
    → declared.is_array ≡ false
    → after ≡ before ++ Location (record { location = declared.first; value = value.Number 0 }) ∷ []
    → ContentsTaken given declared words before after words
no_value given declared words before after alone is = record {
  text = [];
  values = value.Number 0 ∷ [];
  spells = inl (alone, inl (refl, refl));
  added = is;
  takes = takes_nothing words;
}

-- arrays
pub counted : (words a b rest : List Word) (count : ℕ) → (count ≡ 0 → ⊥) → Takes words (Mark mark.LeftBracket ∷ []) a
    → Takes a (Number count ∷ []) b → Takes b (Mark mark.RightBracket ∷ []) rest → CountTaken words rest
counted words a b rest count some left number right = record {
  text = index_tokens count;
  spells = (count, let more : 0 < count = pos_of_ne-zero some in omega (arith, more), refl);
  takes = one_behind_another words a rest (Mark mark.LeftBracket ∷ [])
      (Number count ∷ Mark mark.RightBracket ∷ []) left
      (one_behind_another a b rest (Number count ∷ []) (Mark mark.RightBracket ∷ []) number right);
}

pub empty_array : (given : Given) (declared : Declared) (words rest : List Word) (before after : List Entry)
    → declared.is_array ≡ true → CountTaken words rest → given.is_pointer ≡ false
    → after ≡ before ++ Location (record { location = declared.first; value = value.Number 0 }) ∷ []
    → ContentsTaken given declared words before after rest
empty_array given declared words rest before after array count plain is = record {
  text = count.text ++ [];
  values = value.Number 0 ∷ [];
  spells = inr (
    array,
    record {
      count = count.text;
      held = [];
      spelled = refl;
      plain = plain;
      counted = count.spells;
      holds = inl (refl, refl);
    },
  );
  added = is;
  takes = subst (λ (t : List Token). Takes words t rest) (sym (append-nil count.text)) count.takes;
}

pub filled_array : (given : Given) (declared : Declared) (words a b c rest : List Word) (before after : List Entry)
    → declared.is_array ≡ true → CountTaken words a → given.is_pointer ≡ false → Takes a (Mark mark.Equals ∷ []) b
    → Takes b (Mark mark.LeftBrace ∷ []) c → ElementsTaken given declared c before after rest
    → ContentsTaken given declared words before after rest
filled_array given declared words a b c rest before after array count plain equals left held = record {
  text = count.text ++ Mark mark.Equals ∷ Mark mark.LeftBrace ∷ held.text;
  values = held.values;
  spells = inr (
    array,
    record {
      count = count.text;
      held = Mark mark.Equals ∷ Mark mark.LeftBrace ∷ held.text;
      spelled = refl;
      plain = plain;
      counted = count.spells;
      holds = inr (record { inner = held.text; spelled = refl; elements = held.spells; few = held.few });
    },
  );
  added = held.added;
  takes = one_behind_another words a rest count.text (Mark mark.Equals ∷ Mark mark.LeftBrace ∷ held.text) count.takes
      (one_behind_another a b rest (Mark mark.Equals ∷ []) (Mark mark.LeftBrace ∷ held.text) equals
      (one_behind_another b c rest (Mark mark.LeftBrace ∷ []) held.text left held.takes));
}

-- so many elements are read, and what the rest spells is behind them
pub record ReadsOn (given : Given) (declared : Declared) (words : List Word) (before now : List Entry) (count : ℕ)
    (rest : List Word) : Type 0 where
  pub values : List Value
  pub many : length values ≡ count
  pub added : now ≡ before ++ placed declared.first values
  pub on : (more : List Value) (text : List Token) (end : List Word) → SpellsElements given text more
      → Takes rest text end → (all : List Token) × SpellsElements given all (values ++ more) × Takes words all end

placed_more : (first : ℕ) (values : List Value) (held : Value)
    → placed first (values ++ held ∷ [])
    ≡ placed first values ++ Location (record { location = first + length values; value = held }) ∷ []
placed_more first [] held =
    let none : first ≡ first + 0 = omega arith in
    ap (λ (n : ℕ). Location (record { location = n; value = held }) ∷ []) none
placed_more first (v ∷ values) held =
    let one : first + 1 + length values ≡ first + length (v ∷ values) = omega arith in
    ap (λ (t : List Entry). Location (record { location = first; value = v }) ∷ t)
    (placed_more (first + 1) values held
    ∙ ap (λ (n : ℕ). placed (first + 1) values ++ Location (record { location = n; value = held }) ∷ []) one)

pub reads_none : (given : Given) (declared : Declared) (words : List Word) (before : List Entry)
    → ReadsOn given declared words before before 0 words
reads_none given declared words before = record {
  values = [];
  many = refl;
  added = sym (append-nil before);
  on = λ more text end spells takes. (text, spells, takes);
}

added_more : (declared : Declared) (before now after : List Entry) (values : List Value) (count index : ℕ)
    (held : Value) → length values ≡ count → now ≡ before ++ placed declared.first values → index ≡ declared.first + count
    → after ≡ now ++ Location (record { location = index; value = held }) ∷ []
    → after ≡ before ++ placed declared.first (values ++ held ∷ [])
added_more declared before now after values count index held many so_far at is =
    is ∙ ap (λ (t : List Entry). t ++ Location (record { location = index; value = held }) ∷ []) so_far
    ∙ append_assoc before (placed declared.first values) (Location (record { location = index; value = held }) ∷ [])
    ∙ ap (λ (n : ℕ). before ++ (placed declared.first values ++ Location (record { location = n; value = held }) ∷ []))
    (at ∙ ap (λ (n : ℕ). declared.first + n) (sym many))
    ∙ ap (λ (t : List Entry). before ++ t) (sym (placed_more declared.first values held))

pub reads_more : (given : Given) (declared : Declared) (words rest behind next : List Word)
    (before now after : List Entry) (count index : ℕ) (held : Value)
    → ReadsOn given declared words before now count rest → GivenValueTaken given rest held behind
    → Takes behind (Mark mark.Comma ∷ []) next → index ≡ declared.first + count
    → after ≡ now ++ Location (record { location = index; value = held }) ∷ []
    → ReadsOn given declared words before after (count + 1) next
reads_more given declared words rest behind next before now after count index held so_far v comma at is = record {
  values = so_far.values ++ held ∷ [];
  many = length-append so_far.values (held ∷ []) ∙ ap (λ (n : ℕ). n + 1) so_far.many;
  added = added_more declared before now after so_far.values count index held so_far.many so_far.added at is;
  on = λ more text end spells takes.
      let all = so_far.on (held ∷ more) (v.text ++ Mark mark.Comma ∷ text) end
      (v.text, Mark mark.Comma ∷ text, (v.spells, v.fits), refl, inr (text, refl, spells))
      (one_behind_another rest behind end v.text (Mark mark.Comma ∷ text) v.takes
      (one_behind_another behind next end (Mark mark.Comma ∷ []) text comma takes)) in
      (all.0, subst (SpellsElements given all.0) (sym (append_assoc so_far.values (held ∷ []) more)) all.1, all.2);
}

pub reads_last : (given : Given) (declared : Declared) (words rest behind end : List Word)
    (before now after : List Entry) (count most index : ℕ) (held : Value) → most ≡ elements_of declared → count < most
    → ReadsOn given declared words before now count rest → GivenValueTaken given rest held behind
    → Takes behind (Mark mark.RightBrace ∷ []) end → index ≡ declared.first + count
    → after ≡ now ++ Location (record { location = index; value = held }) ∷ []
    → ElementsTaken given declared words before after end
reads_last given declared words rest behind end before now after count most index held last inside so_far v
    closes at is =
    let all = so_far.on (held ∷ []) (v.text ++ Mark mark.RightBrace ∷ []) end
    (v.text, Mark mark.RightBrace ∷ [], (v.spells, v.fits), refl, inl (refl, refl))
    (one_behind_another rest behind end v.text (Mark mark.RightBrace ∷ []) v.takes closes) in
    let many : length (so_far.values ++ held ∷ []) ≡ count + 1 =
    length-append so_far.values (held ∷ []) ∙ ap (λ (n : ℕ). n + 1) so_far.many in
    record {
      text = all.0;
      values = so_far.values ++ held ∷ [];
      spells = all.1;
      few = subst (λ (n : ℕ). n ≤ elements_of declared) (sym many)
          (subst (λ (n : ℕ). count + 1 ≤ n) last (omega (arith, inside)));
      added = added_more declared before now after so_far.values count index held so_far.many so_far.added at is;
      takes = all.2;
    }

-- an entry behind what may stand before it
pub given_entry : (words behind rest : List Word) (before after : List Entry) (given : Given)
    → GivenTaken words given behind → AddedTaken given behind before after rest → EntryTaken words before after rest
given_entry words behind rest before after given g u = record {
  text = g.text ++ u.text;
  entries = u.entries;
  spells = record {
    given = given;
    first = g.text;
    behind = u.text;
    spelled = refl;
    gives = g.spells;
    untyped = u.spells;
  };
  added = u.added;
  takes = one_behind_another words behind rest g.text u.text g.takes u.takes;
}

-- one entry more
grown : (before after entries others : List Entry) → after ≡ before ++ entries
    → before ++ (entries ++ others) ≡ after ++ others
grown before after entries others is =
    sym (append_assoc before entries others) ∙ ap (λ (t : List Entry). t ++ others) (sym is)

pub next_entry : (all : List Token) (rest behind next : List Word) (before after : List Entry)
    → ((others : List Entry) → AreEntries before others (tokens rest) → AreEntries [] (before ++ others) all)
    → EntryTaken rest before after behind → Takes behind (Mark mark.Semicolon ∷ []) next
    → (others : List Entry) → AreEntries after others (tokens next) → AreEntries [] (after ++ others) all
next_entry all rest behind next before after so_far taken end others are =
    subst (λ (t : List Entry). AreEntries [] t all) (grown before after taken.entries others taken.added)
    (so_far (taken.entries ++ others)
    (subst (AreEntries before (taken.entries ++ others))
    (ap (λ (t : List Token). taken.text ++ t) (sym end.spelled) ∙ sym taken.takes.spelled)
    (entries_more before taken.entries others taken.text (tokens next) taken.spells
    (subst (λ (t : List Entry). AreEntries t others (tokens next)) taken.added are))))

empty : (words : List Word) → length words ≡ 0 → tokens words ≡ []
empty [] nothing = refl
empty (word ∷ words) nothing = absurd (omega (arith, nothing))

pub last_entry : (all : List Token) (rest behind : List Word) (before after : List Entry)
    → ((others : List Entry) → AreEntries before others (tokens rest) → AreEntries [] (before ++ others) all)
    → EntryTaken rest before after behind → length behind ≡ 0 → AreEntries [] after all
last_entry all rest behind before after so_far taken nothing =
    subst (λ (t : List Entry). AreEntries [] t all) (sym taken.added)
    (so_far taken.entries
    (subst (AreEntries before taken.entries)
    (sym (append-nil taken.text) ∙ ap (λ (t : List Token). taken.text ++ t) (sym (empty behind nothing))
    ∙ sym taken.takes.spelled)
    (entries_last before taken.entries taken.text taken.spells)))

pub no_entry : (all : List Token) (rest : List Word) (before : List Entry)
    → ((others : List Entry) → AreEntries before others (tokens rest) → AreEntries [] (before ++ others) all)
    → length rest ≡ 0 → AreEntries [] before all
no_entry all rest before so_far nothing =
    subst (λ (t : List Entry). AreEntries [] t all) (append-nil before)
    (so_far [] (subst (AreEntries before []) (sym (empty rest nothing)) (entries_none before)))

-- what an entry doesn't speak of, those behind it tell
passes_over : (b : Bool) (held : Value) (rest : Option Value) → b ≡ false
    → (if b then Some held else rest) ≡ rest
passes_over b held rest off = ap (λ (t : Bool). if t then Some held else rest) off

pub start_passes : (start : HartStart) (entries : List Entry) (hart register : ℕ)
    → (start.hart == hart && start.register == register) ≡ false
    → start_in (Register start ∷ entries) hart register ≡ start_in entries hart register
start_passes start entries hart register off =
    passes_over (start.hart == hart && start.register == register) start.value (start_in entries hart register) off

pub initial_passes : (initial : Initial) (entries : List Entry) (location : ℕ)
    → (initial.location == location) ≡ false
    → initial_in (Location initial ∷ entries) location ≡ initial_in entries location
initial_passes initial entries location off =
    passes_over (initial.location == location) initial.value (initial_in entries location) off

-- one register more
pub one_start_more : (all before after : List RegisterStart) (entries : List Entry) (hart register : ℕ)
    → register < 32 → before ++ starts_from (32 - register) entries hart register ≡ all
    → after ≡ before ++ start_at entries hart register
    → after ++ starts_from (32 - (register + 1)) entries hart (register + 1) ≡ all
one_start_more all before after entries hart register inside so_far is =
    let left : 32 - register ≡ suc (32 - (register + 1)) = omega (arith, inside) in
    ap (λ (t : List RegisterStart). t ++ starts_from (32 - (register + 1)) entries hart (register + 1)) is
    ∙ append_assoc before (start_at entries hart register)
    (starts_from (32 - (register + 1)) entries hart (register + 1))
    ∙ ap (λ (n : ℕ). before ++ starts_from n entries hart register) (sym left)
    ∙ so_far

pub no_start_more : (all before : List RegisterStart) (entries : List Entry) (hart register : ℕ) → 32 ≤ register
    → before ++ starts_from (32 - register) entries hart register ≡ all → before ≡ all
no_start_more all before entries hart register past so_far =
    let none : 32 - register ≡ 0 = omega (arith, past) in
    sym (append-nil before) ∙ ap (λ (n : ℕ). before ++ starts_from n entries hart register) (sym none) ∙ so_far
