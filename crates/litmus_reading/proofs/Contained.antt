-- What an entry gives a location or an array, read in one way.
use Rattle.std.proofs.Common.{◌≡◌, ℕ, true, false, List, [], ◌∷◌, ◌++◌, sym, ap, ◌∙◌, subst, inl, inr, arith, true≢false}
use Rattle.std.specs.Prelude.{◌⊎◌, ◌≢◌}
use Rattle.litmus_tests.specs.declared.value.Value.{Value}
use Rattle.litmus_tests.specs.declared.value.Value.TheVariants as value
use Rattle.litmus_words.specs.declared.word.{Word.Word, Declared.Declared}
use Rattle.litmus_words.specs.declared.word.Token.{Token}
use Rattle.litmus_words.specs.declared.word.Token.TheVariants.{Number, Mark}
use Rattle.litmus_words.specs.declared.word.Mark.TheVariants as mark
use Rattle.litmus_words.specs.Parts.{NoIndex, NoOffset}
use Rattle.litmus_words.specs.Tokens.{Takes}
use Rattle.litmus_words.proofs.Only.{in_brackets, InBrackets}
use Rattle.litmus_words.proofs.Taking.{begins_by, in_parts, same_rest}
use Rattle.litmus_reading.specs.declared.contents.Given.{Given}
use Rattle.litmus_reading.specs.declared.start.Entry.{Entry}
use Rattle.litmus_reading.specs.declared.start.Entry.TheVariants.{Location}
use Rattle.litmus_reading.specs.Fitting.{GivenValueTaken}
use Rattle.litmus_reading.specs.Starts.{ContentsTaken, CountTaken, ElementsTaken, IsEnded, MayBeFilled, SpellsArray, SpellsInitial, placed}

-- what ends an entry goes on with nothing else
pub ended_by : (words rest : List Word) (token : Token) → IsEnded words → Takes words (token ∷ []) rest
    → token ≡ Mark mark.Semicolon
ended_by [] rest token ended takes = absurd takes.so
ended_by (word ∷ words) rest token ended takes = sym takes.so.0 ∙ ended

no_equals : Mark mark.Equals ≡ Mark mark.Semicolon → ⊥
no_equals e = cc

pub nothing_given : (words rest : List Word) → IsEnded words → Takes words (Mark mark.Equals ∷ []) rest → ⊥
nothing_given words rest ended takes = no_equals (ended_by words rest (Mark mark.Equals) ended takes)

other_than_bracket : (word : Word) → word.token ≡ Mark mark.Semicolon → word.token ≢ Mark mark.LeftBracket
other_than_bracket word is = λ e. let both : Mark mark.Semicolon ≡ Mark mark.LeftBracket = sym is ∙ e in cc

other_than_plus : (word : Word) → word.token ≡ Mark mark.Semicolon → word.token ≢ Mark mark.Plus
other_than_plus word is = λ e. let both : Mark mark.Semicolon ≡ Mark mark.Plus = sym is ∙ e in cc

pub ended_index : (words : List Word) → IsEnded words → NoIndex words
ended_index [] ended = tt
ended_index (word ∷ words) ended = other_than_bracket word ended

pub ended_offset : (words : List Word) → IsEnded words → NoOffset words
ended_offset [] ended = tt
ended_offset (word ∷ words) ended = other_than_plus word ended

-- neither does a mark that isn't one of an index or an offset
pub begins_other : (words rest : List Word) (token : Token) → Takes words (token ∷ []) rest
    → token ≢ Mark mark.LeftBracket → token ≢ Mark mark.Plus → NoIndex words × NoOffset words
begins_other [] rest token takes bracket plus = absurd takes.so
begins_other (word ∷ words) rest token takes bracket plus =
    ((λ e. bracket (sym takes.so.0 ∙ e)), (λ e. plus (sym takes.so.0 ∙ e)))

-- the pieces of a count, and of an array
pub record CountParts (words rest : List Word) : Type 0 where
  pub count : ℕ
  pub some : count ≡ 0 → ⊥
  pub brackets : InBrackets words (Number count) rest

pub count_parts : (words rest : List Word) → CountTaken words rest → CountParts words rest
count_parts words rest it =
    let more = it.spells.1 in
    record {
      count = it.spells.0;
      some = λ none. absurd (omega (arith, more, none));
      brackets = in_brackets words rest (Number it.spells.0)
          (subst (λ (t : List Token). Takes words t rest) it.spells.2 it.takes);
    }

pub record FilledParts (given : Given) (declared : Declared) (words : List Word) (before after : List Entry)
    (rest : List Word) : Type 0 where
  pub behind : List Word
  pub inner : List Word
  pub equals : Takes words (Mark mark.Equals ∷ []) behind
  pub opens : Takes behind (Mark mark.LeftBrace ∷ []) inner
  pub elements : ElementsTaken given declared inner before after rest

abbrev pub ZeroAdded : Declared → List Entry → List Entry → Type 0
ZeroAdded declared before after =
    after ≡ before ++ Location (record { location = declared.first; value = value.Number 0 }) ∷ []

pub record ArrayParts (given : Given) (declared : Declared) (words : List Word) (before after : List Entry)
    (rest : List Word) : Type 0 where
  pub between : List Word
  pub count : CountTaken words between
  pub plain : given.is_pointer ≡ false
  pub held : ((between ≡ rest) × ZeroAdded declared before after)
      ⊎ FilledParts given declared between before after rest

held_parts : (given : Given) (declared : Declared) (words : List Word) (before after : List Entry) (rest : List Word)
    (text : List Token) (values : List Value) → MayBeFilled given declared text values
    → after ≡ before ++ placed declared.first values → Takes words text rest
    → ((words ≡ rest) × ZeroAdded declared before after) ⊎ FilledParts given declared words before after rest
held_parts given declared words before after rest text values (inl (none, zero_held)) added takes = inl (
  (subst (λ (t : List Token). Takes words t rest) none takes).so,
  added ∙ ap (λ (t : List Value). before ++ placed declared.first t) zero_held,
)
held_parts given declared words before after rest text values (inr filled) added takes =
    let parts = begins_by words rest (Mark mark.Equals) (Mark mark.LeftBrace ∷ filled.inner)
    (subst (λ (t : List Token). Takes words t rest) filled.spelled takes) in
    let further = begins_by parts.between rest (Mark mark.LeftBrace) filled.inner parts.behind in
    inr (record {
      behind = parts.between;
      inner = further.between;
      equals = parts.before;
      opens = further.before;
      elements = record {
        text = filled.inner;
        values = values;
        spells = filled.elements;
        few = filled.few;
        added = added;
        takes = further.behind;
      };
    })

array_by : (given : Given) (declared : Declared) (words : List Word) (before after : List Entry) (rest : List Word)
    (text : List Token) (values : List Value) → SpellsArray given declared text values
    → after ≡ before ++ placed declared.first values → Takes words text rest
    → ArrayParts given declared words before after rest
array_by given declared words before after rest text values it added takes =
    let parts = in_parts words rest it.count it.held
    (subst (λ (t : List Token). Takes words t rest) it.spelled takes) in
    record {
      between = parts.between;
      count = record { text = it.count; spells = it.counted; takes = parts.before };
      plain = it.plain;
      held = held_parts given declared parts.between before after rest it.held values it.holds added parts.behind;
    }

no_array : (declared : Declared) → declared.is_array ≡ true → declared.is_array ≡ false → ⊥
no_array declared array alone = true≢false (sym array ∙ alone)

array_of : (given : Given) (declared : Declared) (words : List Word) (before after : List Entry) (rest : List Word)
    (text : List Token) (values : List Value) → declared.is_array ≡ true
    → ((declared.is_array ≡ false) × SpellsInitial given text values)
    ⊎ ((declared.is_array ≡ true) × SpellsArray given declared text values)
    → after ≡ before ++ placed declared.first values → Takes words text rest
    → ArrayParts given declared words before after rest
array_of given declared words before after rest text values array (inl alone) added takes =
    absurd (no_array declared array alone.0)
array_of given declared words before after rest text values array (inr it) added takes =
    array_by given declared words before after rest text values it.1 added takes

pub array_parts : (given : Given) (declared : Declared) (words : List Word) (before after : List Entry)
    (rest : List Word) → declared.is_array ≡ true → ContentsTaken given declared words before after rest
    → ArrayParts given declared words before after rest
array_parts given declared words before after rest array it =
    array_of given declared words before after rest it.text it.values array it.spells it.added it.takes

-- those of what is no array
pub record ValueParts (given : Given) (declared : Declared) (words : List Word) (before after : List Entry)
    (rest : List Word) : Type 0 where
  pub behind : List Word
  pub held : Value
  pub equals : Takes words (Mark mark.Equals ∷ []) behind
  pub value : GivenValueTaken given behind held rest
  pub added : after ≡ before ++ Location (record { location = declared.first; value = held }) ∷ []

abbrev pub InitialParts : Given → Declared → List Word → List Entry → List Entry → List Word → Type 0
InitialParts given declared words before after rest =
    ((words ≡ rest) × ZeroAdded declared before after) ⊎ ValueParts given declared words before after rest

initial_by : (given : Given) (declared : Declared) (words : List Word) (before after : List Entry) (rest : List Word)
    (text : List Token) (values : List Value) → SpellsInitial given text values
    → after ≡ before ++ placed declared.first values → Takes words text rest
    → InitialParts given declared words before after rest
initial_by given declared words before after rest text values (inl (none, zero_held)) added takes = inl (
  (subst (λ (t : List Token). Takes words t rest) none takes).so,
  added ∙ ap (λ (t : List Value). before ++ placed declared.first t) zero_held,
)
initial_by given declared words before after rest text values (inr (number, held, is, fit, one)) added takes =
    let parts = begins_by words rest (Mark mark.Equals) number
    (subst (λ (t : List Token). Takes words t rest) is takes) in
    inr (record {
      behind = parts.between;
      held = held;
      equals = parts.before;
      value = record { text = number; spells = fit.0; fits = fit.1; takes = parts.behind };
      added = added ∙ ap (λ (t : List Value). before ++ placed declared.first t) one;
    })

initial_of : (given : Given) (declared : Declared) (words : List Word) (before after : List Entry) (rest : List Word)
    (text : List Token) (values : List Value) → declared.is_array ≡ false
    → ((declared.is_array ≡ false) × SpellsInitial given text values)
    ⊎ ((declared.is_array ≡ true) × SpellsArray given declared text values)
    → after ≡ before ++ placed declared.first values → Takes words text rest
    → InitialParts given declared words before after rest
initial_of given declared words before after rest text values alone (inl it) added takes =
    initial_by given declared words before after rest text values it.1 added takes
initial_of given declared words before after rest text values alone (inr it) added takes =
    absurd (no_array declared it.0 alone)

pub initial_parts : (given : Given) (declared : Declared) (words : List Word) (before after : List Entry)
    (rest : List Word) → declared.is_array ≡ false → ContentsTaken given declared words before after rest
    → InitialParts given declared words before after rest
initial_parts given declared words before after rest alone it =
    initial_of given declared words before after rest it.text it.values alone it.spells it.added it.takes

-- where a `=` comes next, something is given
value_of : (given : Given) (declared : Declared) (words behind : List Word) (before after : List Entry)
    (rest : List Word) → Takes words (Mark mark.Equals ∷ []) behind → IsEnded rest
    → InitialParts given declared words before after rest → ValueParts given declared words before after rest
value_of given declared words behind before after rest equals ended (inl none) =
    absurd (nothing_given rest behind ended
    (subst (λ (t : List Word). Takes t (Mark mark.Equals ∷ []) behind) none.0 equals))
value_of given declared words behind before after rest equals ended (inr parts) = parts

pub value_parts : (given : Given) (declared : Declared) (words behind : List Word) (before after : List Entry)
    (rest : List Word) → declared.is_array ≡ false → Takes words (Mark mark.Equals ∷ []) behind → IsEnded rest
    → ContentsTaken given declared words before after rest → ValueParts given declared words before after rest
value_parts given declared words behind before after rest alone equals ended it =
    value_of given declared words behind before after rest equals ended
    (initial_parts given declared words before after rest alone it)

pub one_added : (location : ℕ) (before now after : List Entry) (one other : Value) → one ≡ other
    → now ≡ before ++ Location (record { location = location; value = one }) ∷ []
    → after ≡ before ++ Location (record { location = location; value = other }) ∷ [] → now ≡ after
one_added location before now after one other same is so =
    is ∙ ap (λ (v : Value). before ++ Location (record { location = location; value = v }) ∷ []) same ∙ sym so

filled_of : (given : Given) (declared : Declared) (words behind : List Word) (before after : List Entry)
    (rest : List Word) → Takes words (Mark mark.Equals ∷ []) behind → IsEnded rest
    → ((words ≡ rest) × ZeroAdded declared before after) ⊎ FilledParts given declared words before after rest
    → FilledParts given declared words before after rest
filled_of given declared words behind before after rest equals ended (inl none) =
    absurd (nothing_given rest behind ended
    (subst (λ (t : List Word). Takes t (Mark mark.Equals ∷ []) behind) none.0 equals))
filled_of given declared words behind before after rest equals ended (inr parts) = parts

pub array_elements : (given : Given) (declared : Declared) (words found behind inner : List Word)
    (before after : List Entry) (rest : List Word) (parts : ArrayParts given declared words before after rest)
    → found ≡ parts.between → Takes found (Mark mark.Equals ∷ []) behind
    → Takes behind (Mark mark.LeftBrace ∷ []) inner → IsEnded rest
    → ElementsTaken given declared inner before after rest
array_elements given declared words found behind inner before after rest parts same equals opens ended =
    let here = subst (λ (t : List Word). Takes t (Mark mark.Equals ∷ []) behind) same equals in
    let filled = filled_of given declared parts.between behind before after rest here ended parts.held in
    let there = same_rest parts.between filled.behind behind (Mark mark.Equals ∷ []) filled.equals here in
    let inside = same_rest behind filled.inner inner (Mark mark.LeftBrace ∷ [])
    (subst (λ (t : List Word). Takes t (Mark mark.LeftBrace ∷ []) filled.inner) there filled.opens) opens in
    subst (λ (t : List Word). ElementsTaken given declared t before after rest) inside filled.elements
