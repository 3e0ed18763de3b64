-- A value that fits where it is given, and one that was found to fit.
use Rattle.std.proofs.Common.{◌≡◌, true, false, ℤ, ℕ, List, [], ◌∷◌, Result, refl, sym, ap, ◌∙◌, subst, inl, inr, true≢false}
use Rattle.litmus_tests.specs.declared.value.Value.{Value}
use Rattle.litmus_tests.specs.declared.value.Value.TheVariants.{Number, Address}
use Rattle.litmus_words.specs.Answered.{Gives}
use Rattle.litmus_words.specs.declared.refused.Stop.{Stop}
use Rattle.litmus_words.specs.declared.word.{Word.Word as AnyWord, Declared.Declared}
use Rattle.litmus_words.specs.declared.word.Token.{Token}
use Rattle.litmus_words.specs.declared.word.Token.TheVariants.{Location}
use Rattle.litmus_words.specs.declared.word.Token.TheVariants as token
use Rattle.litmus_words.specs.declared.word.Mark.TheVariants as mark
use Rattle.litmus_tests.specs.declared.condition.Observed.{Observed}
use Rattle.litmus_tests.specs.declared.condition.Observed.TheVariants as observed
use denote.Bor.{Bor}
use Rattle.litmus_words.specs.Parts.{AddressTaken, IntegerTaken, LocationTaken, NoIndex, NumberTaken, ObservedTaken, SpellsByte, SpellsInteger, SpellsValue, ValueTaken}
use Rattle.litmus_words.specs.Tokens.{Takes}
use Rattle.litmus_words.proofs.Only.{address_parts, integer_of}
use Rattle.litmus_words.proofs.Taking.{begins_by, first_taken, same_first}
use Rattle.watched_outcomes.specs.declared.watch.Width.{Width}
use Rattle.watched_outcomes.specs.declared.watch.Width.TheVariants.{Byte, Half, Word}
use Rattle.litmus_reading.specs.declared.contents.Given.{Given}
use Rattle.litmus_reading.specs.Fitting.{FitsGiven, FitsIn, FittingTaken, GivenValueTaken, IsWithin, PointsTo}

-- what a check of the width finds
abbrev pub AllWithin : List AnyWord → Width → Type 0
AllWithin words width = (number : ℤ) → (rest : List AnyWord) → IntegerTaken words number rest → IsWithin width number

abbrev pub NoAddress : List AnyWord → Width → Type 0
NoAddress words width = (declared : Declared) → (rest : List AnyWord) → Takes words (Location declared ∷ []) rest
    → width ≡ Word

abbrev pub AllPointTo : List AnyWord → Width → Type 0
AllPointTo words width = (declared : Declared) → (rest : List AnyWord) → Takes words (Location declared ∷ []) rest
    → declared.number_type.width ≡ width

abbrev number_of_value : (words rest : List AnyWord) (word : ℕ) → ValueTaken words (Number word) rest
    → NumberTaken words word rest
number_of_value words rest word taken = record { text = taken.text; spells = taken.spells; takes = taken.takes }

abbrev address_of_value : (words rest : List AnyWord) (byte : ℕ) → ValueTaken words (Address byte) rest
    → AddressTaken words byte rest
address_of_value words rest byte taken = record { text = taken.text; spells = taken.spells; takes = taken.takes }

fits_in : (width : Width) (words rest : List AnyWord) (value : Value) → AllWithin words width → NoAddress words width
    → (taken : ValueTaken words value rest) → FitsIn width taken.text value
fits_in width words rest (Number word) within none taken =
    let it = number_of_value words rest word taken in
    (it.spells.number, it.spells.spelled, within it.spells.number rest (integer_of words rest word it))
fits_in width words rest (Address byte) within none taken =
    let parts = address_parts words rest byte (address_of_value words rest byte taken) in
    subst (λ (w : Width). FitsIn w taken.text (Address byte)) (sym (none parts.declared parts.behind parts.name)) tt

points_to : (width : Width) (words rest : List AnyWord) (text : List Token) → AllPointTo words width
    → Takes words text rest → PointsTo width text
points_to width words rest text all takes = λ declared others is.
    let parts = begins_by words rest (Location declared) others
    (subst (λ (t : List Token). Takes words t rest) is takes) in
    all declared parts.between parts.before

pub width_fits : (given : Given) (words : List AnyWord) → given.is_pointer ≡ false
    → AllWithin words given.number_type.width → NoAddress words given.number_type.width
    → (value : Value) → (rest : List AnyWord) → ValueTaken words value rest → GivenValueTaken given words value rest
width_fits given words plain within none value rest taken = record {
  text = taken.text;
  spells = taken.spells;
  fits = inr (plain, fits_in given.number_type.width words rest value within none taken);
  takes = taken.takes;
}

pub pointer_fits : (given : Given) (words : List AnyWord) → given.is_pointer ≡ true
    → AllPointTo words given.number_type.width
    → (value : Value) → (rest : List AnyWord) → ValueTaken words value rest → GivenValueTaken given words value rest
pointer_fits given words pointer all value rest taken = record {
  text = taken.text;
  spells = taken.spells;
  fits = inl (pointer, points_to given.number_type.width words rest taken.text all taken.takes);
  takes = taken.takes;
}

-- a value has a token at least
no_integer : (number : ℤ) → SpellsInteger [] number → ⊥
no_integer number (natural, inl (is, so)) = cc
no_integer number (natural, inr (is, so)) = cc

no_token : (token : Token) (more : List Token) → [] ≡ token ∷ more → ⊥
no_token token more e = cc

not_both : false ≡ true → ⊥
not_both e = true≢false (sym e)

no_byte : (declared : Declared) (byte : ℕ) → SpellsByte declared [] byte → ⊥
no_byte declared byte (inl alone) = no_token (Location declared) [] alone.0
no_byte declared byte (inr (inl offset)) = no_token (Location declared) _ offset.1
no_byte declared byte (inr (inr element)) = no_token (Location declared) _ element.1

some_value : (value : Value) → SpellsValue [] value → ⊥
some_value (Number word) spells = no_integer spells.number spells.spelled
some_value (Address byte) spells = no_byte spells.declared byte spells.spelled

all_point_by : (width : Width) (words rest behind : List AnyWord) (value : Value) (text : List Token)
    (declared : Declared) → SpellsValue text value → PointsTo width text → Takes words text rest
    → Takes words (Location declared ∷ []) behind → declared.number_type.width ≡ width
all_point_by width words rest behind value [] declared spells points takes first = absurd (some_value value spells)
all_point_by width words rest behind value (token ∷ text) declared spells points takes first =
    points declared text (ap (λ (t : Token). t ∷ text)
    (sym (same_first words behind rest (Location declared) token text first takes)))

-- which of the two it is
both_ways : (given : Given) (text : List Token) (value : Value) → given.is_pointer ≡ true → FitsGiven given text value
    → PointsTo given.number_type.width text
both_ways given text value pointer (inl it) = it.1
both_ways given text value pointer (inr it) = absurd (not_both (sym it.0 ∙ pointer))

other_way : (given : Given) (text : List Token) (value : Value) → given.is_pointer ≡ false
    → FitsGiven given text value → FitsIn given.number_type.width text value
other_way given text value plain (inr it) = it.1
other_way given text value plain (inl it) = absurd (not_both (sym plain ∙ it.0))

pub pointer_given : (given : Given) (words : List AnyWord) (result : Result Unit Stop) → given.is_pointer ≡ true
    → (AllPointTo words given.number_type.width → Gives result (λ _. Unit {0}))
    → (value : Value) → (rest : List AnyWord) → GivenValueTaken given words value rest
    → Gives result (λ _. Unit {0})
pointer_given given words result pointer only value rest taken =
    only (λ declared behind first. all_point_by given.number_type.width words rest behind value taken.text declared
    taken.spells (both_ways given taken.text value pointer taken.fits) taken.takes first)

word_by : (width : Width) (text : List Token) (byte : ℕ) → FitsIn width text (Address byte) → width ≡ Word
word_by Word text byte fits = refl
word_by Byte text byte fits = absurd fits
word_by Half text byte fits = absurd fits

width_by : (width : Width) (words rest : List AnyWord) (result : Result Unit Stop) (value : Value)
    → ((number : ℤ) → (rest : List AnyWord) → IntegerTaken words number rest → IsWithin width number
    → Gives result (λ _. Unit {0}))
    → ((declared : Declared) → (rest : List AnyWord) → Takes words (Location declared ∷ []) rest → width ≡ Word
    → Gives result (λ _. Unit {0}))
    → (taken : ValueTaken words value rest) → FitsIn width taken.text value → Gives result (λ _. Unit {0})
width_by width words rest result (Number word) only address taken fits =
    only fits.0 rest (record { text = taken.text; spells = fits.1; takes = taken.takes }) fits.2
width_by width words rest result (Address byte) only address taken fits =
    let parts = address_parts words rest byte (address_of_value words rest byte taken) in
    address parts.declared parts.behind parts.name (word_by width taken.text byte fits)

pub width_given : (given : Given) (words : List AnyWord) (result : Result Unit Stop) → given.is_pointer ≡ false
    → ((number : ℤ) → (rest : List AnyWord) → IntegerTaken words number rest
    → IsWithin given.number_type.width number → Gives result (λ _. Unit {0}))
    → ((declared : Declared) → (rest : List AnyWord) → Takes words (Location declared ∷ []) rest
    → given.number_type.width ≡ Word → Gives result (λ _. Unit {0}))
    → (value : Value) → (rest : List AnyWord) → GivenValueTaken given words value rest
    → Gives result (λ _. Unit {0})
width_given given words result plain only address value rest taken =
    width_by given.number_type.width words rest result value only address
    (record { text = taken.text; spells = taken.spells; takes = taken.takes })
    (other_way given taken.text value plain taken.fits)

pub value_of_given : (given : Given) (words rest : List AnyWord) (value : Value)
    → GivenValueTaken given words value rest → ValueTaken words value rest
value_of_given given words rest value taken =
    record { text = taken.text; spells = taken.spells; takes = taken.takes }

-- what is looked at, where no number comes first, is a location
pub place_only : (words rest behind : List AnyWord) (one : Observed) (word : AnyWord)
    (result : Result (Observed × Bor (List AnyWord)) Stop) → words ≡ word ∷ behind
    → ((hart : ℕ) → word.token ≡ token.Number hart → ⊥)
    → ((index : ℕ) (rest : List AnyWord) → LocationTaken words index rest → NoIndex rest
    → Gives result (λ p. (p.0 ≡ observed.Location index) × (p.1.now ≡ rest)))
    → ObservedTaken words one rest → NoIndex rest → Gives result (λ p. (p.0 ≡ one) × (p.1.now ≡ rest))
place_only words rest behind (observed.Location index) word result is off only taken over =
    only index rest (record { text = taken.text; spells = taken.spells; takes = taken.takes }) over
place_only words rest behind (observed.Register hart register) word result is off only taken over =
    let parts = begins_by words rest (token.Number hart)
    (token.Mark mark.Colon ∷ token.Register register ∷ [])
    (subst (λ (t : List Token). Takes words t rest) taken.spells taken.takes) in
    absurd (off hart (first_taken words behind parts.between word (token.Number hart) is parts.before).0)

-- the same where a width is asked for
pub fitting_taken : (width : Width) (words rest : List AnyWord) (value : Value) → AllWithin words width
    → NoAddress words width → ValueTaken words value rest → FittingTaken width words value rest
fitting_taken width words rest value within none taken = record {
  text = taken.text;
  spells = taken.spells;
  fits = fits_in width words rest value within none taken;
  takes = taken.takes;
}

pub width_fitting : (width : Width) (words : List AnyWord) (result : Result Unit Stop)
    → ((number : ℤ) → (rest : List AnyWord) → IntegerTaken words number rest → IsWithin width number
    → Gives result (λ _. Unit {0}))
    → ((declared : Declared) → (rest : List AnyWord) → Takes words (Location declared ∷ []) rest → width ≡ Word
    → Gives result (λ _. Unit {0}))
    → (value : Value) → (rest : List AnyWord) → FittingTaken width words value rest → Gives result (λ _. Unit {0})
width_fitting width words result only address value rest taken =
    width_by width words rest result value only address
    (record { text = taken.text; spells = taken.spells; takes = taken.takes }) taken.fits

pub moved_value : (width other : Width) (words behind rest : List AnyWord) (value : Value) → width ≡ other
    → words ≡ behind → FittingTaken other behind value rest → FittingTaken width words value rest
moved_value width other words behind rest value same there taken =
    subst (λ (w : Width). FittingTaken w words value rest) (sym same)
    (subst (λ (t : List AnyWord). FittingTaken other t value rest) (sym there) taken)
