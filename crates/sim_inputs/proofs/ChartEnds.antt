-- What a word says of where a chart begins or ends, by how it begins.
use Rattle.std.proofs.Common.{◌≡◌, ◌≢◌, ℕ, ◌+◌, nat_lt, ◌==◌, ◌&&◌, ◌||◌, not, slice_index, if◌then◌else◌, Bool, true, false, List, [], ◌∷◌, ◌++◌, length}
use Rattle.std.proofs.Common.{Result, Ok, Err, Option, None, get_or, refl, sym, ◌∙◌, ap, inl, inr, arith, eq-eqb}
use Rattle.std.proofs.Common.{Some, nat_le, ap₂, codes, length-append}
use Rattle.std.specs.{Char.is_ascii_digit, List.list_all}
use Rattle.text_fields.specs.Reading.{decimal_field, is_number}
use Rattle.text_fields.specs.{declared.read.FieldError.FieldError}
use Rattle.text_fields.specs.{declared.read.FieldError.TheVariants.Misspelled}
use Rattle.clap.specs.Words.{Row, Text, first_of}
use Rattle.sim_inputs.specs.ChartEnds.{begins_with_digit, begins_with_quote, do_ends_rise, IsEndOf, Names}
use Rattle.sim_inputs.specs.CommandLine.{Finds, IsEnd, IsEndIn}
use Rattle.sim_inputs.specs.declared.line.ChartEnd.{ChartEnd}
use Rattle.sim_inputs.specs.declared.line.ChartEnd.TheVariants.{Event, Function}

third_of : (a b c d : Bool) → (a && b && (c && d)) ≡ true → c ≡ true
third_of a b true d is = refl
third_of true true false d is = is
third_of true false false d is = is
third_of false b false d is = is

number_begins : (word : List ℕ) → is_number word ≡ true → begins_with_digit word ≡ true
number_begins [] is = is
number_begins (byte ∷ others) is =
    let word : List ℕ = byte ∷ others in
    third_of (nat_lt 0 (length word)) (length word == 1 || not (slice_index word 0 == 48)) (is_ascii_digit byte)
    (list_all is_ascii_digit others) is

chosen : (is : Bool) (read : Result ℕ FieldError) (number : ℕ) → (if is then read else Err Misspelled) ≡ Ok number
    → is ≡ true
chosen true read number same = refl
chosen false read number same = cc

-- a word that is read as a number begins with a digit
digits_read : (greatest number : ℕ) (word : List ℕ) → decimal_field greatest word ≡ Ok number
    → begins_with_digit word ≡ true
unfolding decimal_field
digits_read greatest number word read = number_begins word (chosen (is_number word) _ number read)

-- and one that begins with a digit names nothing
digits_name_nothing : (word name : List ℕ) → begins_with_digit word ≡ true → Names word name → ⊥
digits_name_nothing word name digit named = elim named.1 [
  | inl same ↦ cc
  | inr quoted ↦ let off : begins_with_digit (39 ∷ (name ++ 39 ∷ [])) ≡ true = rw quoted at digit in cc
]

-- a word that begins with no digit, and that names nothing, says no end
no_end : (word : List ℕ) (greatest : ℕ) → begins_with_digit word ≡ false → ((name : List ℕ) → Names word name → ⊥)
    → (end : ChartEnd) → IsEndOf word greatest end → ⊥
no_end word greatest other nameless (Event number) read = let digit = digits_read greatest number word read in cc
no_end word greatest other nameless (Function name) named = nameless name.now named

-- so it is with an empty word
pub empty_says_none : (word : List ℕ) (greatest : ℕ) → length word ≡ 0 → (end : ChartEnd)
    → IsEndOf word greatest end → ⊥
empty_says_none [] greatest empty end says =
    no_end [] greatest refl (λ name named. elim named.1 [ inl same ↦ named.0 (sym same.0) | inr quoted ↦ cc ]) end says
empty_says_none (byte ∷ others) greatest empty end says = absurd (omega arith)

quote_begins : (word : List ℕ) → get_or word 0 0 ≡ 39
    → (begins_with_quote word ≡ true) × (begins_with_digit word ≡ false)
quote_begins [] begins = absurd (omega arith)
quote_begins (byte ∷ others) begins = (eq-eqb byte 39 begins, rw begins refl)

-- and with one that begins with a quote, if nothing stands between that and another one
quoted_says_none : (word : List ℕ) (greatest : ℕ) → get_or word 0 0 ≡ 39
    → ((name : List ℕ) → name ≢ [] → word ≢ 39 ∷ (name ++ 39 ∷ [])) → (end : ChartEnd) → IsEndOf word greatest end → ⊥
quoted_says_none word greatest begins unquoted =
    let quote = quote_begins word begins in
    no_end word greatest quote.1 (λ name named. elim named.1 [
      | inl same ↦ cc
      | inr quoted ↦ unquoted name named.0 quoted
    ])

emptied : (xs : List ℕ) → length xs ≡ 0 → xs ≡ []
emptied [] none = refl
emptied (x ∷ xs) none = absurd (omega arith)

abbrev rest_of : List ℕ → List ℕ
rest_of [] = []
rest_of (byte ∷ others) = others

-- there is no quote
pub unquoted_says_none : (word : List ℕ) (greatest : ℕ) → get_or word 0 0 ≡ 39 → ((rest : List ℕ) → word ≢ 39 ∷ rest)
    → (end : ChartEnd) → IsEndOf word greatest end → ⊥
unquoted_says_none word greatest begins other =
    quoted_says_none word greatest begins (λ name some same. other (name ++ 39 ∷ []) same)

-- no other quote ends it
pub unended_says_none : (word quoted : List ℕ) (greatest : ℕ) → get_or word 0 0 ≡ 39 → word ≡ 39 ∷ quoted
    → ((front : List ℕ) → quoted ≢ front ++ 39 ∷ []) → (end : ChartEnd) → IsEndOf word greatest end → ⊥
unended_says_none word quoted greatest begins is unended =
    quoted_says_none word greatest begins (λ name some same. unended name (ap rest_of (sym is ∙ same)))

-- or the other one stands behind it
pub nameless_says_none : (word quoted name : List ℕ) (greatest : ℕ) → get_or word 0 0 ≡ 39 → word ≡ 39 ∷ quoted
    → quoted ≡ name ++ 39 ∷ [] → length name ≡ 0 → (end : ChartEnd) → IsEndOf word greatest end → ⊥
nameless_says_none word quoted name greatest begins is ended empty =
    quoted_says_none word greatest begins (λ other some same.
    let long : length quoted ≡ length other + 1 = ap length (ap rest_of (sym is ∙ same)) ∙ length-append other (39 ∷ []) in
    let short : length quoted ≡ length name + 1 = ap length ended ∙ length-append name (39 ∷ []) in
    some (emptied other (omega (arith, long, short, empty))))

-- where no end is found, there is none
pub finds_none : (P : ChartEnd → Type 0) (found : Option ChartEnd) → found ≡ None → ((end : ChartEnd) → P end → ⊥)
    → Finds P found
finds_none P found is none = rw is none

same_read : (m n : ℕ) → let read : Result ℕ FieldError = Ok m in read ≡ Ok n → Some m ≡ Some n
same_read m n same = cc

-- the number of the event that an end is, if it is one
abbrev place_of : ChartEnd → Option ℕ
place_of (Event number) = Some number
place_of (Function name) = None

place_said : (word : List ℕ) (greatest : ℕ) (a b : ChartEnd) → IsEndOf word greatest a → IsEndOf word greatest b
    → place_of a ≡ place_of b
place_said word greatest (Event m) (Event n) first second = same_read m n (sym first ∙ second)
place_said word greatest (Event m) (Function name) first second =
    absurd (digits_name_nothing word name.now (digits_read greatest m word first) second)
place_said word greatest (Function name) (Event n) first second =
    absurd (digits_name_nothing word name.now (digits_read greatest n word second) first)
place_said word greatest (Function name) (Function other) first second = refl

place_alike : (word : Option Text) (default greatest : ℕ) (a b : ChartEnd) → IsEndIn word default greatest a
    → IsEndIn word default greatest b → place_of a ≡ place_of b
place_alike None default greatest a b first second = ap place_of (first ∙ sym second)
place_alike (Some word) default greatest a b first second = place_said word greatest a b first second

do_places_rise : Option ℕ → Option ℕ → Bool
do_places_rise (Some first) (Some last) = nat_le first last
do_places_rise (Some first) None = true
do_places_rise None last = true

rise_by_places : (first last : ChartEnd) → do_ends_rise first last ≡ do_places_rise (place_of first) (place_of last)
unfolding do_places_rise
rise_by_places (Event first) (Event last) = refl
rise_by_places (Event first) (Function name) = refl
rise_by_places (Function name) (Event last) = refl
rise_by_places (Function name) (Function other) = refl

-- ends that options say rise where others do that they say
pub rise_alike : (rows : List Row) (default other greatest : ℕ) (first last from to : ChartEnd)
    → IsEnd rows (codes "from") default greatest first → IsEnd rows (codes "to") other greatest last
    → IsEnd rows (codes "from") default greatest from → IsEnd rows (codes "to") other greatest to
    → do_ends_rise first last ≡ do_ends_rise from to
rise_alike rows default other greatest first last from to is_first is_last is_from is_to =
    rise_by_places first last ∙ (ap₂ do_places_rise
    (place_alike (first_of (codes "from") rows) default greatest first from is_first is_from)
    (place_alike (first_of (codes "to") rows) other greatest last to is_last is_to) ∙ sym (rise_by_places from to))
