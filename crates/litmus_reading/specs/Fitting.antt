-- Which values fit where a width is given or asked for.
use Rattle.std.specs.Prelude.{◌≡◌, ◌⊎◌, ◌<◌, ℕ, true, false, ℤ, pos, neg_ℤ, ◌≤ℤ◌, List, ◌∷◌}
use Rattle.litmus_tests.specs.declared.value.Value.{Value}
use Rattle.litmus_tests.specs.declared.condition.Observed.{Observed}
use Rattle.litmus_tests.specs.declared.condition.Observed.TheVariants as observed
use Rattle.litmus_tests.specs.declared.value.Value.TheVariants.{Number, Address}
use Rattle.litmus_words.specs.declared.word.Token.{Token}
use Rattle.litmus_words.specs.declared.word.Token.TheVariants.{Location, Mark}
use Rattle.litmus_words.specs.declared.word.Mark.TheVariants as mark
use Rattle.litmus_words.specs.declared.word.{Word.Word as AnyWord, Declared.Declared}
use Rattle.litmus_words.specs.Parts.{SpellsInteger, SpellsValue}
use Rattle.litmus_words.specs.Tokens.{Takes}
use Rattle.watched_outcomes.specs.declared.watch.Width.{Width}
use Rattle.watched_outcomes.specs.declared.watch.Width.TheVariants.{Byte, Half, Word}
use Rattle.litmus_reading.specs.declared.contents.Given.{Given}

-- A byte and a half may be written with a sign or without. [ISO C, 6.2.6.2]
abbrev pub IsWithin : Width → ℤ → Type 0
IsWithin Byte number = (neg_ℤ (pos 128) ≤ℤ number) × (number ≤ℤ pos 255)
IsWithin Half number = (neg_ℤ (pos 32768) ≤ℤ number) × (number ≤ℤ pos 65535)
IsWithin Word number = Unit {0}

-- A number that fits; an address is a word.
abbrev pub FitsIn : Width → List Token → Value → Type 0
FitsIn width text (Number word) = (number : ℤ) × SpellsInteger text number × IsWithin width number
FitsIn Word text (Address byte) = Unit {0}
FitsIn width text (Address byte) = ⊥

-- A pointer to numbers of a width is given the address of one of that width, or a number.
abbrev pub PointsTo : Width → List Token → Type 0
PointsTo width text = (declared : Declared) → (others : List Token) → text ≡ Location declared ∷ others
    → declared.number_type.width ≡ width

abbrev pub FitsGiven : Given → List Token → Value → Type 0
FitsGiven given text value =
    ((given.is_pointer ≡ true) × PointsTo given.number_type.width text)
    ⊎ ((given.is_pointer ≡ false) × FitsIn given.number_type.width text value)

-- A value that is given so stands before the rest.
pub record GivenValueTaken (given : Given) (words : List AnyWord) (value : Value) (rest : List AnyWord) : Type 0 where
  pub text : List Token
  pub spells : SpellsValue text value
  pub fits : FitsGiven given text value
  pub takes : Takes words text rest

-- How wide what is looked at is: `x`, `[x]` and `x[1]` as their location says, a register as a word.
abbrev pub width_at : List Token → Width
width_at (Location declared ∷ others) = declared.number_type.width
width_at (Mark mark.LeftBracket ∷ Location declared ∷ others) = declared.number_type.width
width_at text = Word

-- A value that fits in a width stands before the rest.
pub record FittingTaken (width : Width) (words : List AnyWord) (value : Value) (rest : List AnyWord) : Type 0 where
  pub text : List Token
  pub spells : SpellsValue text value
  pub fits : FitsIn width text value
  pub takes : Takes words text rest

-- What is looked at is there, of so many harts: x0 can hold no other number than 0.
abbrev pub IsThere : ℕ → Observed → Type 0
IsThere harts (observed.Register hart register) = (hart < harts) × (0 < register)
IsThere harts (observed.Location index) = Unit {0}
