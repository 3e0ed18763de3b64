-- Which tokens spell a part of a test: a number, a value, a location.
use Rattle.std.specs.Prelude.{◌≡◌, ◌≢◌, ◌⊎◌, ℕ, ◌+◌, ◌*◌, ◌^◌, ◌<◌, true, false, ℤ, pos, neg_ℤ, ◌≤ℤ◌, ◌<ℤ◌, ◌+ℤ◌, List, [], ◌∷◌}
use Rattle.litmus_tests.specs.declared.value.Value.{Value}
use Rattle.litmus_tests.specs.declared.value.Value.TheVariants as value
use Rattle.litmus_tests.specs.declared.condition.Observed.{Observed}
use Rattle.litmus_tests.specs.declared.condition.Observed.TheVariants as observed
use Rattle.litmus_words.specs.declared.word.{Word.Word, Declared.Declared}
use Rattle.watched_outcomes.specs.Watching.{bytes_of}
use Rattle.litmus_words.specs.declared.word.Token.{Token}
use Rattle.litmus_words.specs.declared.word.Token.TheVariants.{Register, Number, Location, Mark}
use Rattle.litmus_words.specs.declared.word.Mark.TheVariants as mark
use Rattle.litmus_words.specs.Tokens.{Takes}

-- A number, with a minus sign before it or none.
abbrev pub SpellsInteger : List Token → ℤ → Type 0
SpellsInteger text number = (natural : ℕ)
    × (((text ≡ Number natural ∷ []) × (number ≡ pos natural))
    ⊎ ((text ≡ Mark mark.Minus ∷ Number natural ∷ []) × ((number +ℤ pos natural) ≡ pos 0)))

-- The word that a number is: itself, or where it is below zero in two's complement.
abbrev pub IsWordOf : ℤ → ℕ → Type 0
IsWordOf number word = (word < 2 ^ 32) × ((number ≡ pos word)
    ⊎ ((neg_ℤ (pos (2 ^ 31)) ≤ℤ number) × (number <ℤ pos 0) × ((number +ℤ pos (2 ^ 32)) ≡ pos word)))

pub record SpellsNumber (text : List Token) (word : ℕ) : Type 0 where
  pub number : ℤ
  pub spelled : SpellsInteger text number
  pub fits : IsWordOf number word

-- How many bytes an element of a declared location has.
abbrev pub element_size : Declared → ℕ
element_size declared = bytes_of declared.number_type.width

-- An index in brackets.
abbrev pub index_tokens : ℕ → List Token
index_tokens element = Mark mark.LeftBracket ∷ Number element ∷ Mark mark.RightBracket ∷ []

-- An address: of a location, of a byte in it, or of an element of an array, as `x`, `x+4` and `x[1]`. It says how many
-- bytes that stands behind the first of all locations.
abbrev pub SpellsByte : Declared → List Token → ℕ → Type 0
SpellsByte declared text byte = ((text ≡ Location declared ∷ []) × (byte ≡ declared.byte))
    ⊎ ((offset : ℕ) × (text ≡ Location declared ∷ Mark mark.Plus ∷ Number offset ∷ [])
    × (offset < declared.size) × (byte ≡ declared.byte + offset))
    ⊎ ((element : ℕ) × (text ≡ Location declared ∷ index_tokens element) × (declared.is_array ≡ true)
    × (element_size declared * element < declared.size) × (byte ≡ declared.byte + element_size declared * element))

pub record SpellsAddress (text : List Token) (byte : ℕ) : Type 0 where
  pub declared : Declared
  pub spelled : SpellsByte declared text byte

-- A number, or an address.
abbrev pub SpellsValue : List Token → Value → Type 0
SpellsValue text (value.Number number) = SpellsNumber text number
SpellsValue text (value.Address byte) = SpellsAddress text byte

-- A location, in brackets or without, or an element of an array, by its index among the locations.
abbrev pub SpellsIndex : Declared → List Token → ℕ → Type 0
SpellsIndex declared text index =
    ((text ≡ Location declared ∷ []) × (declared.is_array ≡ false) × (index ≡ declared.first))
    ⊎ ((text ≡ Mark mark.LeftBracket ∷ Location declared ∷ Mark mark.RightBracket ∷ [])
    × (declared.is_array ≡ false) × (index ≡ declared.first))
    ⊎ ((element : ℕ) × (text ≡ Location declared ∷ index_tokens element) × (declared.is_array ≡ true)
    × (element_size declared * element < declared.size) × (index ≡ declared.first + element))

pub record SpellsLocation (text : List Token) (index : ℕ) : Type 0 where
  pub declared : Declared
  pub spelled : SpellsIndex declared text index

-- What is looked at: `0:x7`, `x`, `[x]`.
abbrev pub SpellsObserved : List Token → Observed → Type 0
SpellsObserved text (observed.Register hart register) =
    text ≡ Number hart ∷ Mark mark.Colon ∷ Register register ∷ []
SpellsObserved text (observed.Location index) = SpellsLocation text index

-- One of these stands before the rest of the words.
pub record IntegerTaken (words : List Word) (number : ℤ) (rest : List Word) : Type 0 where
  pub text : List Token
  pub spells : SpellsInteger text number
  pub takes : Takes words text rest

pub record NumberTaken (words : List Word) (number : ℕ) (rest : List Word) : Type 0 where
  pub text : List Token
  pub spells : SpellsNumber text number
  pub takes : Takes words text rest

pub record AddressTaken (words : List Word) (byte : ℕ) (rest : List Word) : Type 0 where
  pub text : List Token
  pub spells : SpellsAddress text byte
  pub takes : Takes words text rest

-- What stands behind is nothing that such a part would go on with: no mark of an index, and none of an offset.
abbrev pub NoIndex : List Word → Type 0
NoIndex [] = Unit {0}
NoIndex (word ∷ words) = word.token ≢ Mark mark.LeftBracket

abbrev pub NoOffset : List Word → Type 0
NoOffset [] = Unit {0}
NoOffset (word ∷ words) = word.token ≢ Mark mark.Plus

abbrev pub ElementTaken : List Word → ℕ → List Word → Type 0
ElementTaken words element rest = Takes words (index_tokens element) rest

pub record ValueTaken (words : List Word) (value : Value) (rest : List Word) : Type 0 where
  pub text : List Token
  pub spells : SpellsValue text value
  pub takes : Takes words text rest

pub record LocationTaken (words : List Word) (index : ℕ) (rest : List Word) : Type 0 where
  pub text : List Token
  pub spells : SpellsLocation text index
  pub takes : Takes words text rest

pub record ObservedTaken (words : List Word) (one : Observed) (rest : List Word) : Type 0 where
  pub text : List Token
  pub spells : SpellsObserved text one
  pub takes : Takes words text rest
