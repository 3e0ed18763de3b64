-- The start: entries with a `;` behind each; the last may have none. [herd's initial state]
use Rattle.std.specs.Prelude.{◌≡◌, ◌⊎◌, ℕ, zero, suc, ◌+◌, ◌<◌, ◌≤◌, ◌==◌, ◌&&◌, true, false, Bool, if◌then◌else◌, length, map, All}
use Rattle.std.specs.Prelude.{List, [], ◌∷◌, ◌++◌, Option, Some, None, option_map, option_to_list, unwrap_or}
use Rattle.litmus_tests.specs.declared.value.Value.{Value}
use Rattle.litmus_tests.specs.declared.value.Value.TheVariants as value
use Rattle.litmus_tests.specs.declared.test.RegisterStart.{RegisterStart}
use Rattle.litmus_tests.specs.{declared.number_type.NumberType.NumberType, Locations.int}
use Rattle.litmus_words.specs.declared.word.{Word.Word, Declared.Declared}
use Rattle.litmus_words.specs.declared.word.Token.{Token}
use Rattle.litmus_words.specs.declared.word.Token.TheVariants.{Register as register_token, Location as location_token, Number, Mark}
use Rattle.litmus_words.specs.declared.word.Token.TheVariants as token
use Rattle.litmus_words.specs.declared.word.Mark.TheVariants as mark
use Rattle.litmus_words.specs.Parts.{index_tokens, SpellsValue}
use Rattle.litmus_words.specs.Tokens.{Takes}
use Rattle.litmus_reading.specs.declared.contents.Given.{Given}
use Rattle.litmus_reading.specs.declared.start.{HartStart.HartStart}
use Rattle.litmus_reading.specs.declared.start.Entry.{Entry}
use Rattle.litmus_reading.specs.declared.start.Entry.TheVariants.{Register, Location}
use Rattle.litmus_reading.specs.Fitting.{FitsGiven}
use Rattle.litmus_reading.specs.Names.{elements_of}

-- What may stand before an entry: a type, and a `*` behind it.
abbrev pub SpellsType : List Token → NumberType → Type 0
SpellsType text number_type = ((text ≡ []) × (number_type ≡ int)) ⊎ (text ≡ token.Type number_type ∷ [])

abbrev pub SpellsStar : List Token → Bool → Type 0
SpellsStar text is_pointer = ((text ≡ []) × (is_pointer ≡ false))
    ⊎ ((text ≡ Mark mark.Star ∷ []) × (is_pointer ≡ true))

pub record SpellsGiven (text : List Token) (given : Given) : Type 0 where
  pub type_text : List Token
  pub star_text : List Token
  pub spelled : text ≡ type_text ++ star_text
  pub typed : SpellsType type_text given.number_type
  pub pointed : SpellsStar star_text given.is_pointer

pub record GivenTaken (words : List Word) (given : Given) (rest : List Word) : Type 0 where
  pub text : List Token
  pub spells : SpellsGiven text given
  pub takes : Takes words text rest

-- A value that fits where it is given.
abbrev pub SpellsHeld : Given → List Token → Value → Type 0
SpellsHeld given text held = SpellsValue text held × FitsGiven given text held

-- `0:x5=1`: x0 can hold no other number than 0.
pub record SpellsRegister (given : Given) (text : List Token) (start : HartStart) : Type 0 where
  pub number : List Token
  pub spelled : text
      ≡ Number start.hart ∷ Mark mark.Colon ∷ register_token start.register ∷ Mark mark.Equals ∷ number
  pub other : 0 < start.register
  pub holds : SpellsHeld given number start.value

pub record RegisterTaken (given : Given) (words : List Word) (start : HartStart) (rest : List Word) : Type 0 where
  pub text : List Token
  pub spells : SpellsRegister given text start
  pub takes : Takes words text rest

-- `x`, `[x]`.
abbrev pub SpellsName : List Token → Declared → Type 0
SpellsName text declared = (text ≡ location_token declared ∷ [])
    ⊎ (text ≡ Mark mark.LeftBracket ∷ location_token declared ∷ Mark mark.RightBracket ∷ [])

pub record NameTaken (words : List Word) (declared : Declared) (rest : List Word) : Type 0 where
  pub text : List Token
  pub spells : SpellsName text declared
  pub takes : Takes words text rest

-- These values, from this location on.
abbrev pub placed : ℕ → List Value → List Entry
placed location [] = []
placed location (held ∷ others) =
    Location (record { location = location; value = held }) ∷ placed (location + 1) others

-- `=1`; where nothing stands, it is 0.
abbrev pub SpellsInitial : Given → List Token → List Value → Type 0
SpellsInitial given text values = ((text ≡ []) × (values ≡ value.Number 0 ∷ []))
    ⊎ ((number : List Token) × (held : Value) × (text ≡ Mark mark.Equals ∷ number) × SpellsHeld given number held
    × (values ≡ held ∷ []))

-- `1,2}`.
abbrev pub SpellsElements : Given → List Token → List Value → Type 0
SpellsElements given text [] = ⊥
SpellsElements given text (held ∷ others) = (first : List Token) × (rest : List Token) × SpellsHeld given first held
    × (text ≡ first ++ rest)
    × (((rest ≡ Mark mark.RightBrace ∷ []) × (others ≡ []))
    ⊎ ((more : List Token) × (rest ≡ Mark mark.Comma ∷ more) × SpellsElements given more others))

-- `[2]`, of an array that has one element at least.
abbrev pub SpellsCount : List Token → Type 0
SpellsCount text = (count : ℕ) × (1 ≤ count) × (text ≡ index_tokens count)

pub record CountTaken (words rest : List Word) : Type 0 where
  pub text : List Token
  pub spells : SpellsCount text
  pub takes : Takes words text rest

-- Behind that `={1,2}`, of which there are no more than there are elements; where nothing stands, they are 0.
pub record SpellsFilled (given : Given) (declared : Declared) (text : List Token) (values : List Value)
    : Type 0 where
  pub inner : List Token
  pub spelled : text ≡ Mark mark.Equals ∷ Mark mark.LeftBrace ∷ inner
  pub elements : SpellsElements given inner values
  pub few : length values ≤ elements_of declared

abbrev pub MayBeFilled : Given → Declared → List Token → List Value → Type 0
MayBeFilled given declared text values =
    ((text ≡ []) × (values ≡ value.Number 0 ∷ [])) ⊎ SpellsFilled given declared text values

-- An array, which is never given as a pointer: how many elements it has, and what they hold.
pub record SpellsArray (given : Given) (declared : Declared) (text : List Token) (values : List Value)
    : Type 0 where
  pub count : List Token
  pub held : List Token
  pub spelled : text ≡ count ++ held
  pub plain : given.is_pointer ≡ false
  pub counted : SpellsCount count
  pub holds : MayBeFilled given declared held values

-- What stands behind the name of a location, and behind that of an array.
abbrev pub SpellsContents : Given → Declared → List Token → List Value → Type 0
SpellsContents given declared text values = ((declared.is_array ≡ false) × SpellsInitial given text values)
    ⊎ ((declared.is_array ≡ true) × SpellsArray given declared text values)

-- So many entries are added to those before.
pub record ContentsTaken (given : Given) (declared : Declared) (words : List Word) (before after : List Entry)
    (rest : List Word) : Type 0 where
  pub text : List Token
  pub values : List Value
  pub spells : SpellsContents given declared text values
  pub added : after ≡ before ++ placed declared.first values
  pub takes : Takes words text rest

pub record ElementsTaken (given : Given) (declared : Declared) (words : List Word) (before after : List Entry)
    (rest : List Word) : Type 0 where
  pub text : List Token
  pub values : List Value
  pub spells : SpellsElements given text values
  pub few : length values ≤ elements_of declared
  pub added : after ≡ before ++ placed declared.first values
  pub takes : Takes words text rest

-- What a register of a hart holds, where an entry says so, and a location.
abbrev pub start_in : List Entry → ℕ → ℕ → Option Value
start_in [] hart register = None
start_in (Register start ∷ entries) hart register =
    if start.hart == hart && start.register == register then Some start.value else start_in entries hart register
start_in (Location initial ∷ entries) hart register = start_in entries hart register

abbrev pub initial_in : List Entry → ℕ → Option Value
initial_in [] location = None
initial_in (Register start ∷ entries) location = initial_in entries location
initial_in (Location initial ∷ entries) location =
    if initial.location == location then Some initial.value else initial_in entries location

-- `x=1`, `[x]=1`, `x`, `x[2]={1,2}`, of which no entry before speaks.
pub record SpellsPlace (given : Given) (before : List Entry) (text : List Token) (entries : List Entry)
    : Type 0 where
  pub declared : Declared
  pub values : List Value
  pub name : List Token
  pub contents : List Token
  pub spelled : text ≡ name ++ contents
  pub named : SpellsName name declared
  pub holds : SpellsContents given declared contents values
  pub once : initial_in before declared.first ≡ None
  pub are : entries ≡ placed declared.first values

-- An entry says what a register holds, of which no entry before speaks, or a location or the elements of an array.
pub record SpellsHart (given : Given) (before : List Entry) (text : List Token) (entries : List Entry)
    : Type 0 where
  pub start : HartStart
  pub spells : SpellsRegister given text start
  pub once : start_in before start.hart start.register ≡ None
  pub are : entries ≡ Register start ∷ []

abbrev pub SpellsUntyped : Given → List Entry → List Token → List Entry → Type 0
SpellsUntyped given before text entries = SpellsHart given before text entries ⊎ SpellsPlace given before text entries

pub record AddedTaken (given : Given) (words : List Word) (before after : List Entry) (rest : List Word)
    : Type 0 where
  pub text : List Token
  pub entries : List Entry
  pub spells : SpellsUntyped given before text entries
  pub added : after ≡ before ++ entries
  pub takes : Takes words text rest

-- A type and a `*` may stand before it.
pub record SpellsEntry (before : List Entry) (text : List Token) (entries : List Entry) : Type 0 where
  pub given : Given
  pub first : List Token
  pub behind : List Token
  pub spelled : text ≡ first ++ behind
  pub gives : SpellsGiven first given
  pub untyped : SpellsUntyped given before behind entries

pub record EntryTaken (words : List Word) (before after : List Entry) (rest : List Word) : Type 0 where
  pub text : List Token
  pub entries : List Entry
  pub spells : SpellsEntry before text entries
  pub added : after ≡ before ++ entries
  pub takes : Takes words text rest

-- Behind an entry a `;` stands, or nothing.
abbrev pub IsEnded : List Word → Type 0
IsEnded [] = Unit {0}
IsEnded (word ∷ words) = word.token ≡ Mark mark.Semicolon

-- All entries behind those before, in their order.
pub data AreEntries : List Entry → List Entry → List Token → Type 0 where
  entries_none : (before : List Entry) → AreEntries before [] []
  entries_last : (before entries : List Entry) (text : List Token) → SpellsEntry before text entries
      → AreEntries before entries text
  entries_more : (before entries further : List Entry) (text others : List Token) → SpellsEntry before text entries
      → AreEntries (before ++ entries) further others
      → AreEntries before (entries ++ further) (text ++ Mark mark.Semicolon ∷ others)

-- What an entry says, without the place in the text where that is told.
abbrev pub unplaced : Entry → Entry
unplaced (Register start) =
    Register (record { at = 0; hart = start.hart; register = start.register; value = start.value })
unplaced (Location initial) = Location initial

-- Entries that say the same, wherever they are told.
abbrev pub SayTheSame : List Entry → List Entry → Type 0
SayTheSame entries others = map unplaced entries ≡ map unplaced others

-- The harts of which entries say something are among so many.
abbrev pub IsOfHarts : ℕ → Entry → Type 0
IsOfHarts harts (Register start) = start.hart < harts
IsOfHarts harts (Location initial) = Unit {0}

abbrev pub AreOfHarts : ℕ → List Entry → Type 0
AreOfHarts harts entries = All (IsOfHarts harts) entries

-- A location of which nothing is said holds 0.
abbrev pub initial_of : List Entry → ℕ → Value
initial_of entries location = unwrap_or (initial_in entries location) (value.Number 0)

-- The starts of a hart: of so many registers from this one on, those of which an entry speaks; of all of them, x1 first.
abbrev pub start_at : List Entry → ℕ → ℕ → List RegisterStart
start_at entries hart register = option_to_list
    (option_map (λ held. record { register = register; value = held }) (start_in entries hart register))

abbrev pub starts_from : ℕ → List Entry → ℕ → ℕ → List RegisterStart
starts_from zero entries hart register = []
starts_from (suc more) entries hart register =
    start_at entries hart register ++ starts_from more entries hart (register + 1)

abbrev pub starts_of : List Entry → ℕ → List RegisterStart
starts_of entries hart = starts_from 31 entries hart 1
