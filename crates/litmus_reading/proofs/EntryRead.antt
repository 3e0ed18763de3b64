-- An entry, read in one way: what may stand before it, and what it begins with.
use Rattle.std.proofs.Common.{◌≡◌, ℕ, ◌<◌, Bool, true, false, if◌then◌else◌, List, [], ◌∷◌, ◌++◌, Option, None, length, arith, refl, sym, ap, ◌∙◌, subst, inl, inr, true≢false}
use Rattle.std.specs.Prelude.{◌⊎◌}
use Rattle.litmus_tests.specs.declared.number_type.NumberType.{NumberType}
use Rattle.litmus_tests.specs.Locations.{int}
use Rattle.litmus_tests.specs.declared.value.Value.{Value}
use Rattle.litmus_words.specs.declared.word.{Word.Word, Declared.Declared}
use Rattle.litmus_words.specs.declared.word.Token.{Token}
use Rattle.litmus_words.specs.declared.word.Token.TheVariants as token
use Rattle.litmus_words.specs.declared.word.Token.TheVariants.{Register as register_token, Location as location_token, Number, Mark}
use Rattle.litmus_words.specs.declared.word.Mark.TheVariants as mark
use Rattle.litmus_words.specs.Tokens.{Takes}
use Rattle.litmus_words.proofs.Only.{InBrackets, in_brackets, one_first}
use Rattle.litmus_words.proofs.Taking.{begins_by, first_taken, in_parts, shorter_by}
use Rattle.litmus_reading.specs.declared.contents.Given.{Given}
use Rattle.litmus_reading.specs.declared.start.HartStart.{HartStart}
use Rattle.litmus_reading.specs.declared.start.Entry.{Entry}
use Rattle.litmus_reading.specs.declared.start.Entry.TheVariants.{Register}
use Rattle.litmus_reading.specs.Declarations.{begins, behind_one, is_star, is_type, type_before, type_of_token, untyped}
use Rattle.litmus_reading.specs.Fitting.{GivenValueTaken}
use Rattle.litmus_reading.specs.Starts.{ContentsTaken, EntryTaken, GivenTaken, NameTaken, RegisterTaken, SpellsName, SpellsStar, SpellsType, SpellsUntyped}
use Rattle.litmus_reading.specs.Starts.{initial_in, start_in}

-- a star, where it stands
no_star : (words : List Word) → begins is_star words ≡ false → behind_one is_star words ≡ words
no_star [] off = refl
no_star (word ∷ words) off = ap (λ (b : Bool). if b then words else word ∷ words) off

some_star : (words rest : List Word) → Takes words (Mark mark.Star ∷ []) rest
    → (begins is_star words ≡ true) × (behind_one is_star words ≡ rest)
some_star [] rest takes = absurd takes.so
some_star (word ∷ words) rest takes =
    let star : is_star word.token ≡ true = ap is_star takes.so.0 in
    (star, ap (λ (b : Bool). if b then words else word ∷ words) star ∙ takes.so.1)

star_first : (words rest : List Word) (text : List Token) (is_pointer : Bool) → SpellsStar text is_pointer
    → Takes words text rest → begins is_star rest ≡ false
    → (begins is_star words ≡ is_pointer) × (behind_one is_star words ≡ rest)
star_first words rest text is_pointer (inl (none, plain)) takes over =
    let same = (subst (λ (t : List Token). Takes words t rest) none takes).so in
    let off = ap (begins is_star) same ∙ over in
    (off ∙ sym plain, no_star words off ∙ same)
star_first words rest text is_pointer (inr (star, pointer)) takes over =
    let it = some_star words rest (subst (λ (t : List Token). Takes words t rest) star takes) in
    (it.0 ∙ sym pointer, it.1)

-- what stands behind a type is none
no_type_token : (one : Token) → is_type one ≡ false → type_of_token one ≡ int
no_type_token (token.Type number_type) off = absurd (true≢false off)
no_type_token one off = refl

no_type : (words : List Word) → begins is_type words ≡ false → (type_before words ≡ int) × (untyped words ≡ words)
no_type [] off = (refl, refl)
no_type (word ∷ words) off =
    (no_type_token word.token off, ap (λ (b : Bool). if b then words else word ∷ words) off)

some_type : (words rest : List Word) (number_type : NumberType) → Takes words (token.Type number_type ∷ []) rest
    → (type_before words ≡ number_type) × (untyped words ≡ rest)
some_type [] rest number_type takes = absurd takes.so
some_type (word ∷ words) rest number_type takes =
    let there : is_type word.token ≡ true = ap is_type takes.so.0 in
    (ap type_of_token takes.so.0, ap (λ (b : Bool). if b then words else word ∷ words) there ∙ takes.so.1)

type_first : (words rest : List Word) (text : List Token) (number_type : NumberType) → SpellsType text number_type
    → Takes words text rest → begins is_type rest ≡ false
    → (type_before words ≡ number_type) × (untyped words ≡ rest)
type_first words rest text number_type (inl (none, plain)) takes over =
    let same = (subst (λ (t : List Token). Takes words t rest) none takes).so in
    let it = no_type words (ap (begins is_type) same ∙ over) in
    (it.0 ∙ sym plain, it.1 ∙ same)
type_first words rest text number_type (inr is) takes over =
    some_type words rest number_type (subst (λ (t : List Token). Takes words t rest) is takes)

begins_so : (words rest : List Word) (is : Token → Bool) (one : Token) (more : List Token)
    → Takes words (one ∷ more) rest → begins is words ≡ is one
begins_so [] rest is one more takes = absurd takes.so
begins_so (word ∷ words) rest is one more takes = ap is takes.so.0

star_no_type : (words rest : List Word) (text : List Token) (is_pointer : Bool) → SpellsStar text is_pointer
    → Takes words text rest → begins is_type rest ≡ false → begins is_type words ≡ false
star_no_type words rest text is_pointer (inl (none, plain)) takes over =
    ap (begins is_type) (subst (λ (t : List Token). Takes words t rest) none takes).so ∙ over
star_no_type words rest text is_pointer (inr (star, pointer)) takes over =
    begins_so words rest is_type (Mark mark.Star) [] (subst (λ (t : List Token). Takes words t rest) star takes)

pub given_only : (words behind after rest : List Word) (found given : Given) → found.number_type ≡ type_before words
    → behind ≡ untyped words → found.is_pointer ≡ begins is_star behind → after ≡ behind_one is_star behind
    → GivenTaken words given rest → begins is_type rest ≡ false → begins is_star rest ≡ false
    → (found ≡ given) × (after ≡ rest)
given_only words behind after rest found given typed so pointed is taken no_more_type no_more_star =
    let it = taken.spells in
    let parts = in_parts words rest it.type_text it.star_text
    (subst (λ (t : List Token). Takes words t rest) it.spelled taken.takes) in
    let first = type_first words parts.between it.type_text given.number_type it.typed parts.before
    (star_no_type parts.between rest it.star_text given.is_pointer it.pointed parts.behind no_more_type) in
    let second = star_first parts.between rest it.star_text given.is_pointer it.pointed parts.behind no_more_star in
    let there = so ∙ first.1 in
    let number_type = typed ∙ first.0 in
    let is_pointer = pointed ∙ ap (begins is_star) there ∙ second.0 in (
      (λ k. record { number_type = number_type k; is_pointer = is_pointer k }),
      is ∙ ap (behind_one is_star) there ∙ second.1,
    )

-- a name in brackets or without
name_by : (words rest : List Word) (declared : Declared) (text : List Token) → SpellsName text declared
    → Takes words text rest
    → Takes words (location_token declared ∷ []) rest ⊎ InBrackets words (location_token declared) rest
name_by words rest declared text (inl plain) takes = inl (subst (λ (t : List Token). Takes words t rest) plain takes)
name_by words rest declared text (inr bracketed) takes =
    inr (in_brackets words rest (location_token declared)
    (subst (λ (t : List Token). Takes words t rest) bracketed takes))

pub name_parts : (words rest : List Word) (declared : Declared) → NameTaken words declared rest
    → Takes words (location_token declared ∷ []) rest ⊎ InBrackets words (location_token declared) rest
name_parts words rest declared taken = name_by words rest declared taken.text taken.spells taken.takes

not_opened : (declared : Declared) → location_token declared ≡ Mark mark.LeftBracket → ⊥
not_opened declared e = cc

bracketed_of : (words rest inner : List Word) (declared : Declared) → Takes words (Mark mark.LeftBracket ∷ []) inner
    → Takes words (location_token declared ∷ []) rest ⊎ InBrackets words (location_token declared) rest
    → InBrackets words (location_token declared) rest
bracketed_of words rest inner declared opens (inl plain) =
    absurd (not_opened declared
    (one_first words rest inner (location_token declared) (Mark mark.LeftBracket) plain opens))
bracketed_of words rest inner declared opens (inr brackets) = brackets

pub bracketed_parts : (words rest inner : List Word) (declared : Declared)
    → Takes words (Mark mark.LeftBracket ∷ []) inner → NameTaken words declared rest
    → InBrackets words (location_token declared) rest
bracketed_parts words rest inner declared opens taken =
    bracketed_of words rest inner declared opens (name_parts words rest declared taken)

-- the pieces of what a register holds
pub record RegisterParts (given : Given) (words : List Word) (start : HartStart) (rest : List Word) : Type 0 where
  pub a : List Word
  pub b : List Word
  pub c : List Word
  pub d : List Word
  pub hart : Takes words (Number start.hart ∷ []) a
  pub colon : Takes a (Mark mark.Colon ∷ []) b
  pub register : Takes b (register_token start.register ∷ []) c
  pub other : 0 < start.register
  pub equals : Takes c (Mark mark.Equals ∷ []) d
  pub value : GivenValueTaken given d start.value rest

pub register_parts : (given : Given) (words rest : List Word) (start : HartStart)
    → RegisterTaken given words start rest → RegisterParts given words start rest
register_parts given words rest start taken =
    let it = taken.spells in
    let first = begins_by words rest (Number start.hart)
    (Mark mark.Colon ∷ register_token start.register ∷ Mark mark.Equals ∷ it.number)
    (subst (λ (t : List Token). Takes words t rest) it.spelled taken.takes) in
    let second = begins_by first.between rest (Mark mark.Colon)
    (register_token start.register ∷ Mark mark.Equals ∷ it.number) first.behind in
    let third = begins_by second.between rest (register_token start.register) (Mark mark.Equals ∷ it.number)
    second.behind in
    let fourth = begins_by third.between rest (Mark mark.Equals) it.number third.behind in
    record {
      a = first.between;
      b = second.between;
      c = third.between;
      d = fourth.between;
      hart = first.before;
      colon = second.before;
      register = third.before;
      other = it.other;
      equals = fourth.before;
      value = record { text = it.number; spells = it.holds.0; fits = it.holds.1; takes = fourth.behind };
    }

-- the same behind the same words
pub moved_given : (given : Given) (one other rest : List Word) (held : Value) → one ≡ other
    → GivenValueTaken given other held rest → GivenValueTaken given one held rest
moved_given given one other rest held same taken =
    subst (λ (t : List Word). GivenValueTaken given t held rest) (sym same) taken

pub moved_contents : (given : Given) (one other : Declared) (words behind : List Word) (before after : List Entry)
    (rest : List Word) → one ≡ other → words ≡ behind → ContentsTaken given other behind before after rest
    → ContentsTaken given one words before after rest
moved_contents given one other words behind before after rest same there taken =
    subst (λ (d : Declared). ContentsTaken given d words before after rest) (sym same)
    (subst (λ (t : List Word). ContentsTaken given other t before after rest) (sym there) taken)

-- none speaks of it, in the same entries
pub none_read : (one other : Declared) (slice items : List Entry) (before : Option Value) → one ≡ other
    → slice ≡ items → before ≡ initial_in slice one.first → initial_in items other.first ≡ None → before ≡ None
none_read one other slice items before same there is none =
    is ∙ (λ k. initial_in (there k) (same k).first) ∙ none

-- what an entry begins with, behind what may stand before it
pub record HartParts (given : Given) (words : List Word) (before after : List Entry) (rest : List Word)
    : Type 0 where
  pub start : HartStart
  pub register : RegisterTaken given words start rest
  pub once : start_in before start.hart start.register ≡ None
  pub added : after ≡ before ++ Register start ∷ []

pub record PlaceParts (given : Given) (words : List Word) (before after : List Entry) (rest : List Word)
    : Type 0 where
  pub declared : Declared
  pub between : List Word
  pub name : NameTaken words declared between
  pub contents : ContentsTaken given declared between before after rest
  pub once : initial_in before declared.first ≡ None

added_by : (given : Given) (words : List Word) (before after : List Entry) (rest : List Word) (text : List Token)
    (entries : List Entry) → SpellsUntyped given before text entries → after ≡ before ++ entries
    → Takes words text rest → HartParts given words before after rest ⊎ PlaceParts given words before after rest
added_by given words before after rest text entries (inl it) added takes = inl (record {
  start = it.start;
  register = record { text = text; spells = it.spells; takes = takes };
  once = it.once;
  added = added ∙ ap (λ (t : List Entry). before ++ t) it.are;
})
added_by given words before after rest text entries (inr it) added takes =
    let parts = in_parts words rest it.name it.contents
    (subst (λ (t : List Token). Takes words t rest) it.spelled takes) in
    inr (record {
      declared = it.declared;
      between = parts.between;
      name = record { text = it.name; spells = it.named; takes = parts.before };
      contents = record {
        text = it.contents;
        values = it.values;
        spells = it.holds;
        added = added ∙ ap (λ (t : List Entry). before ++ t) it.are;
        takes = parts.behind;
      };
      once = it.once;
    })

-- the first token is neither a type nor a star
record UntypedFirst (words : List Word) : Type 0 where
  pub one : Token
  pub behind : List Word
  pub first : Takes words (one ∷ []) behind
  pub no_type : is_type one ≡ false
  pub no_star : is_star one ≡ false

name_first : (words rest : List Word) (declared : Declared)
    → Takes words (location_token declared ∷ []) rest ⊎ InBrackets words (location_token declared) rest
    → UntypedFirst words
name_first words rest declared (inl plain) =
    record { one = location_token declared; behind = rest; first = plain; no_type = refl; no_star = refl }
name_first words rest declared (inr brackets) = record {
  one = Mark mark.LeftBracket;
  behind = brackets.inside;
  first = brackets.opens;
  no_type = refl;
  no_star = refl;
}

untyped_first : (given : Given) (words : List Word) (before after : List Entry) (rest : List Word)
    → HartParts given words before after rest ⊎ PlaceParts given words before after rest → UntypedFirst words
untyped_first given words before after rest (inl it) =
    let parts = register_parts given words rest it.start it.register in
    record { one = Number it.start.hart; behind = parts.a; first = parts.hart; no_type = refl; no_star = refl }
untyped_first given words before after rest (inr it) =
    name_first words it.between it.declared (name_parts words it.between it.declared it.name)

-- an entry, behind what may stand before it
pub record EntryParts (words : List Word) (before after : List Entry) (rest : List Word) : Type 0 where
  pub given : Given
  pub between : List Word
  pub gives : GivenTaken words given between
  pub no_type : begins is_type between ≡ false
  pub no_star : begins is_star between ≡ false
  pub added : HartParts given between before after rest ⊎ PlaceParts given between before after rest

pub entry_parts : (words : List Word) (before after : List Entry) (rest : List Word)
    → EntryTaken words before after rest → EntryParts words before after rest
entry_parts words before after rest taken =
    let it = taken.spells in
    let parts = in_parts words rest it.first it.behind
    (subst (λ (t : List Token). Takes words t rest) it.spelled taken.takes) in
    let added = added_by it.given parts.between before after rest it.behind taken.entries it.untyped taken.added
    parts.behind in
    let first = untyped_first it.given parts.between before after rest added in
    record {
      given = it.given;
      between = parts.between;
      gives = record { text = it.first; spells = it.gives; takes = parts.before };
      no_type = begins_so parts.between first.behind is_type first.one [] first.first ∙ first.no_type;
      no_star = begins_so parts.between first.behind is_star first.one [] first.first ∙ first.no_star;
      added = added;
    }

pub some_words : (words : List Word) (before after : List Entry) (rest : List Word)
    → EntryTaken words before after rest → length words ≡ 0 → ⊥
some_words words before after rest taken nothing =
    let parts = entry_parts words before after rest taken in
    let first = untyped_first parts.given parts.between before after rest parts.added in
    let long = shorter_by words parts.between parts.gives.text parts.gives.takes in
    let more = shorter_by parts.between first.behind (first.one ∷ []) first.first in
    absurd (omega (arith, long, more, nothing))

-- what may stand before it was read so
pub entry_given : (words : List Word) (before after : List Entry) (rest behind : List Word) (found : Given)
    → ((given : Given) → (rest : List Word) → GivenTaken words given rest → begins is_type rest ≡ false
    → begins is_star rest ≡ false → (found ≡ given) × (behind ≡ rest)) → EntryTaken words before after rest
    → HartParts found behind before after rest ⊎ PlaceParts found behind before after rest
entry_given words before after rest behind found only taken =
    let parts = entry_parts words before after rest taken in
    let same = only parts.given parts.between parts.gives parts.no_type parts.no_star in
    subst (λ (g : Given). HartParts g behind before after rest ⊎ PlaceParts g behind before after rest) (sym same.0)
    (subst (λ (t : List Word). HartParts parts.given t before after rest ⊎ PlaceParts parts.given t before after rest)
    (sym same.1) parts.added)

-- a number begins a register, and nothing else does
not_location : (declared : Declared) (number : ℕ) → location_token declared ≡ Number number → ⊥
not_location declared number e = cc

not_bracket : (number : ℕ) → Mark mark.LeftBracket ≡ Number number → ⊥
not_bracket number e = cc

name_token : (words behind rest : List Word) (word : Word) (declared : Declared) → words ≡ word ∷ behind
    → Takes words (location_token declared ∷ []) rest ⊎ InBrackets words (location_token declared) rest
    → (number : ℕ) → word.token ≡ Number number → ⊥
name_token words behind rest word declared is (inl plain) number e =
    not_location declared number
    (sym (first_taken words behind rest word (location_token declared) is plain).0 ∙ e)
name_token words behind rest word declared is (inr brackets) number e =
    not_bracket number
    (sym (first_taken words behind brackets.inside word (Mark mark.LeftBracket) is brackets.opens).0 ∙ e)

pub hart_first : (given : Given) (words behind : List Word) (before after : List Entry) (rest : List Word) (word : Word)
    (number : ℕ) → words ≡ word ∷ behind → word.token ≡ Number number
    → HartParts given words before after rest ⊎ PlaceParts given words before after rest
    → HartParts given words before after rest
hart_first given words behind before after rest word number is e (inl it) = it
hart_first given words behind before after rest word number is e (inr it) =
    absurd (name_token words behind it.between word it.declared is
    (name_parts words it.between it.declared it.name) number e)

pub place_first : (given : Given) (words behind : List Word) (before after : List Entry) (rest : List Word)
    (word : Word)
    → words ≡ word ∷ behind → ((number : ℕ) → word.token ≡ Number number → ⊥)
    → HartParts given words before after rest ⊎ PlaceParts given words before after rest
    → PlaceParts given words before after rest
place_first given words behind before after rest word is off (inl it) =
    let parts = register_parts given words rest it.start it.register in
    absurd (off it.start.hart (first_taken words behind parts.a word (Number it.start.hart) is parts.hart).0)
place_first given words behind before after rest word is off (inr it) = it

pub some_entry : (given : Given) (words : List Word) (before after : List Entry) (rest : List Word) → words ≡ []
    → HartParts given words before after rest ⊎ PlaceParts given words before after rest → ⊥
some_entry given words before after rest none it =
    let first = untyped_first given words before after rest it in
    (subst (λ (t : List Word). Takes t (first.one ∷ []) first.behind) none first.first).so
