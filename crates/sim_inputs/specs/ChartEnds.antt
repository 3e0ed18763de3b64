-- Where a chart begins and ends, by the words of its options. (This project's own choice.)
use Rattle.std.specs.Prelude.{◌≡◌, ◌≢◌, ◌⊎◌, ℕ, ◌==◌, nat_le, Bool, true, false, List, [], ◌∷◌, ◌++◌, Ok}
use Rattle.std.specs.{Char.is_ascii_digit}
use Rattle.text_fields.specs.Reading.{decimal_field}
use Rattle.sim_inputs.specs.declared.line.ChartEnd.{ChartEnd}
use Rattle.sim_inputs.specs.declared.line.ChartEnd.TheVariants.{Event, Function}

-- The word begins with a digit, or with a single quote.
abbrev pub begins_with_digit : List ℕ → Bool
begins_with_digit [] = false
begins_with_digit (byte ∷ others) = is_ascii_digit byte

abbrev pub begins_with_quote : List ℕ → Bool
begins_with_quote [] = false
begins_with_quote (byte ∷ others) = byte == 39

-- The word names this: all of it where it begins with no digit and no quote, or what stands between the quotes that it
-- begins and ends with; and that isn't nothing.
abbrev pub Names : List ℕ → List ℕ → Type 0
Names word name = (name ≢ []) × (((word ≡ name) × (begins_with_digit word ≡ false) × (begins_with_quote word ≡ false))
    ⊎ (word ≡ 39 ∷ (name ++ 39 ∷ [])))

-- The word says this: the number of an event, of at most so many, or the name of a function.
abbrev pub IsEndOf : List ℕ → ℕ → ChartEnd → Type 0
IsEndOf word greatest (Event number) = decimal_field greatest word ≡ Ok number
IsEndOf word greatest (Function name) = Names word name.now

-- The first event isn't behind the last one, where both are numbers.
abbrev pub do_ends_rise : ChartEnd → ChartEnd → Bool
do_ends_rise (Event first) (Event last) = nat_le first last
do_ends_rise (Event first) (Function name) = true
do_ends_rise (Function name) (Event last) = true
do_ends_rise (Function name) (Function other) = true
