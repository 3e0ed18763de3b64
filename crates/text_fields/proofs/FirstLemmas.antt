-- Where the first field of a text ends.

use Rattle.std.proofs.Common.{◌≡◌, ◌≢◌, ℕ, zero, suc, ◌+◌, ◌-◌, ◌*◌, ◌<◌, ◌≤◌, Bool, true, false, ◌==◌, ◌&&◌, List, []}
use Rattle.std.proofs.Common.{◌∷◌, ◌++◌, ◌⊎◌, inl, inr}
use Rattle.std.proofs.Common.{length, get_or, take, drop, drop-cons, Ok, Err, Result, cond, refl, sym, subst, ◌∙◌, ap}
use Rattle.std.proofs.Common.{arith}
use Rattle.std.proofs.lemmas.Bool.Decides.{nat_tests}
use Rattle.std.proofs.lemmas.List.{length-take-le, take_all, take-append-drop, take_rest}
use Rattle.std.proofs.lemmas.List.Folds.{list_all-append}
use Rattle.std.specs.{Char.is_ascii_digit, List.list_all}
use Rattle.text_fields.specs.{Counting.Counts, declared.read.FieldError.FieldError}
use Rattle.text_fields.specs.declared.read.FieldError.TheVariants.{Misspelled}
use Rattle.text_fields.specs.Reading.{decimal_after, decimal_field, hex_after, hex_field, is_dash, is_hex_digit}
use Rattle.text_fields.specs.Reading.{is_number}
use Rattle.text_fields.specs.Splitting.{field, Lacks, rest}
use Rattle.text_fields.proofs.SplittingLaws.{field-alone, field-cut, field-empty, field-other, field-separator}
use Rattle.text_fields.proofs.SplittingLaws.{rest-alone, rest-cut}

-- the field is the text up to its own length
by_byte : (b : Bool) (s c : ℕ) (cs : List ℕ) → (c == s) ≡ b → field s cs ≡ take (length (field s cs)) cs
    → field s (c ∷ cs) ≡ take (length (field s (c ∷ cs))) (c ∷ cs)
by_byte true s c cs is later = rw (field-separator s c cs is) refl
by_byte false s c cs is later = rw (field-other s c cs is) (ap (λ text. c ∷ text) later)

pub field_taken : (s : ℕ) (text : List ℕ) → field s text ≡ take (length (field s text)) text
field_taken s [] = rw field-empty refl
field_taken s (c ∷ cs) = by_byte (c == s) s c cs refl (field_taken s cs)

by_first : (b : Bool) (s c : ℕ) (cs : List ℕ) → (c == s) ≡ b → length (field s cs) ≤ length cs
    → length (field s (c ∷ cs)) ≤ length (c ∷ cs)
by_first true s c cs is later = rw (field-separator s c cs is) (omega arith)
by_first false s c cs is later = rw (field-other s c cs is) (omega (arith, later))

pub field_inside : (s : ℕ) (text : List ℕ) → length (field s text) ≤ length text
field_inside s [] = rw field-empty (omega arith)
field_inside s (c ∷ cs) = by_first (c == s) s c cs refl (field_inside s cs)

lacks_parts : (s c : ℕ) (cs : List ℕ) → Lacks s (c ∷ cs) → ((c == s) ≡ false) × Lacks s cs
lacks_parts s c cs lacks = (grind (arith, nat_tests), grind (arith, nat_tests))

-- what lacks the separator belongs to the field
pub field-append : (s : ℕ) (a b : List ℕ) → Lacks s a → field s (a ++ b) ≡ a ++ field s b
field-append s [] b lacks = refl
field-append s (c ∷ cs) b lacks =
    let parts = lacks_parts s c cs lacks in
    field-other s c (cs ++ b) parts.0 ∙ ap (λ text. c ∷ text) (field-append s cs b parts.1)

-- a text is what stands before a place, the byte there, and what stands behind it
split : (place : ℕ) (text : List ℕ) → place < length text
    → text ≡ take place text ++ get_or text place 0 ∷ drop (suc place) text
split place text inside =
    sym (take-append-drop place text) ∙ ap (λ cs. take place text ++ cs) (drop-cons text place 0 inside)

by_same : (t : Bool) (a b : ℕ) → (a == b) ≡ t → a ≢ b → t ≡ false
by_same true a b is other = absurd (other (grind (arith, nat_tests, is)))
by_same false a b is other = refl

pub not_same : (a b : ℕ) → a ≢ b → (a == b) ≡ false
not_same a b other = by_same (a == b) a b refl other

length_more : (a : List ℕ) (c : ℕ) (b : List ℕ) → length (a ++ c ∷ b) ≡ length a + suc (length b)
length_more [] c b = omega arith
length_more (d ∷ a) c b = let later = length_more a c b in omega (arith, later)

and_false : (b : Bool) → (b && false) ≡ false
and_false true = refl
and_false false = refl

-- the field ends at a place, with the text or with a separator, or goes on there
module _ (s place : ℕ) (text : List ℕ) (lacks : Lacks s (take place text)) where
  pub ends_with_text : place ≡ length text → (field s text ≡ take place text) × ([] ≡ rest s text)
  ends_with_text is =
      let whole : take place text ≡ text = take_all place text (omega (arith, is)) in
      let all : Lacks s text = subst (Lacks s) whole lacks in
      (field-alone s text all ∙ sym whole, sym (rest-alone s text all))

  module _ (inside : place < length text) where
    pub ends_there : get_or text place 0 ≡ s → (field s text ≡ take place text)
        × (take (length text - (place + 1)) (drop (place + 1) text) ≡ rest s text)
    ends_there is =
        let one : place + 1 ≡ suc place = omega arith in
        let behind = drop (suc place) text in
        let whole : text ≡ take place text ++ s ∷ behind =
        split place text inside ∙ ap (λ c. take place text ++ c ∷ behind) is in
        let taken : take (length text - (place + 1)) (drop (place + 1) text) ≡ behind =
        take_rest text (place + 1) ∙ ap (λ i. drop i text) one in (
          ap (field s) whole ∙ field-cut s (take place text) behind lacks,
          taken ∙ sym (ap (rest s) whole ∙ rest-cut s (take place text) behind lacks),
        )

    goes_on : (get_or text place 0 == s) ≡ false
        → field s text ≡ take place text ++ get_or text place 0 ∷ field s (drop (suc place) text)
    goes_on other =
        let c = get_or text place 0 in
        let behind = drop (suc place) text in
        ap (field s) (split place text inside) ∙ field-append s (take place text) (c ∷ behind) lacks
        ∙ ap (λ cs. take place text ++ cs) (field-other s c behind other)

    pub longer : (get_or text place 0 == s) ≡ false → place < length (field s text)
    longer other =
        let long = length-take-le place text (omega (arith, inside)) in
        let c = get_or text place 0 in
        let more = field s (drop (suc place) text) in
        omega (arith, long, ap length (goes_on other), length_more (take place text) c more)

    -- so a byte there that is no digit makes it no number
    pub no_number : (max : ℕ) → (get_or text place 0 == s) ≡ false → is_ascii_digit (get_or text place 0) ≡ false
        → decimal_field max (field s text) ≡ Err Misspelled
    unfolding decimal_field
    no_number max other no_digit =
        let c = get_or text place 0 in
        let more = field s (drop (suc place) text) in
        let none : list_all is_ascii_digit (field s text) ≡ false =
        ap (list_all is_ascii_digit) (goes_on other) ∙ list_all-append is_ascii_digit (take place text) (c ∷ more)
        ∙ rw no_digit (and_false (list_all is_ascii_digit (take place text))) in
        let is : is_number (field s text) ≡ false = grind (arith, nat_tests, none) in
        rw is refl

-- a field of another length, and one whose digits aren't all hexadecimal, is no hexadecimal number
by_length : (b : Bool) (count : ℕ) (f : List ℕ) → (length f == count && list_all is_hex_digit f) ≡ b
    → ((length f ≡ count) → (list_all is_hex_digit f ≡ true) → ⊥)
    → ◌≡◌ {A = Result ℕ FieldError} (cond b (Ok (hex_after 0 f)) (Err Misspelled)) (Err Misspelled)
by_length true count f is other =
    let long : length f ≡ count = grind (arith, nat_tests) in
    let digits : list_all is_hex_digit f ≡ true = grind (arith, nat_tests) in
    absurd (other long digits)
by_length false count f is other = refl

pub no_hex : (s count : ℕ) (text : List ℕ)
    → ((length (field s text) ≡ count) → (list_all is_hex_digit (field s text) ≡ true) → ⊥)
    → hex_field count (field s text) ≡ Err Misspelled
unfolding hex_field
no_hex s count text other =
    let f = field s text in
    by_length (length f == count && list_all is_hex_digit f) count f refl other

pub shorter : (s count : ℕ) (text : List ℕ) → length text < count → hex_field count (field s text) ≡ Err Misspelled
shorter s count text short =
    no_hex s count text (λ long digits. absurd (omega (arith, long, field_inside s text, short)))

pub other_digits : (s count : ℕ) (text : List ℕ) → list_all is_hex_digit (take count text) ≡ false
    → hex_field count (field s text) ≡ Err Misspelled
other_digits s count text other =
    no_hex s count text (λ long digits.
    let same : take count text ≡ field s text = ap (λ n. take n text) (sym long) ∙ sym (field_taken s text) in
    cc (sym (ap (list_all is_hex_digit) same ∙ digits) ∙ other))

pub too_long : (s count : ℕ) (text : List ℕ) → count < length (field s text)
    → hex_field count (field s text) ≡ Err Misspelled
too_long s count text long = no_hex s count text (λ same digits. absurd (omega (arith, long, same)))

pub hex_there : (s count value : ℕ) (text : List ℕ) → field s text ≡ take count text → count ≤ length text
    → list_all is_hex_digit (take count text) ≡ true → value ≡ hex_after 0 (take count text)
    → hex_field count (field s text) ≡ Ok value
unfolding hex_field
hex_there s count value text is inside digits number =
    let long : (length (take count text) == count) ≡ true =
    let same = length-take-le count text inside in grind (arith, nat_tests, same) in
    rw (is, long, digits, number) refl

-- what has been counted
pub counts_none : (max : ℕ) (text : List ℕ) → Counts max 0 (take 0 text)
counts_none max text = record { all = refl; below = λ small. refl; above = λ large. absurd (omega (arith, large)) }

after-append : (n c : ℕ) (a : List ℕ) → decimal_after n (a ++ c ∷ []) ≡ decimal_after n a * 10 + (c - 48)
after-append n c [] = refl
after-append n c (d ∷ a) = after-append (n * 10 + (d - 48)) c a

by_value : (max value next c : ℕ) (digits : List ℕ) → (value ≤ max) ⊎ (max < value) → Counts max value digits
    → (value ≤ max → next ≡ value * 10 + (c - 48)) → (max < value → next ≡ value)
    → (next ≤ max → next ≡ decimal_after 0 digits * 10 + (c - 48))
    × (max < next → max < decimal_after 0 digits * 10 + (c - 48))
by_value max value next c digits (inl small) here below above =
    let is : next ≡ value * 10 + (c - 48) = below small in
    let same = here.below small in
    (λ little. omega (arith, is, same), λ large. omega (arith, is, same, large))
by_value max value next c digits (inr large) here below above =
    let is : next ≡ value = above large in
    let much = here.above large in
    (λ little. absurd (omega (arith, is, large, little)), λ more. omega (arith, much))

take_next : (place : ℕ) (text : List ℕ) → place < length text
    → take (suc place) text ≡ take place text ++ get_or text place 0 ∷ []
take_next place [] inside = absurd (omega (arith, inside))
take_next zero (c ∷ cs) inside = refl
take_next (suc place) (c ∷ cs) inside = ap (λ text. c ∷ text) (take_next place cs (omega (arith, inside)))

pub counts_more : (max value next place : ℕ) (text : List ℕ) → place < length text → Counts max value (take place text)
    → is_ascii_digit (get_or text place 0) ≡ true → (value ≤ max → next ≡ value * 10 + (get_or text place 0 - 48))
    → (max < value → next ≡ value) → Counts max next (take (place + 1) text)
counts_more max value next place text inside here digit below above =
    let c = get_or text place 0 in
    let digits = take place text in
    let one : place + 1 ≡ suc place = omega arith in
    let taken : take (place + 1) text ≡ digits ++ c ∷ [] = ap (λ i. take i text) one ∙ take_next place text inside in
    let either : (value ≤ max) ⊎ (max < value) = grind arith in
    let both = by_value max value next c digits either here below above in
    let all : list_all is_ascii_digit (digits ++ c ∷ []) ≡ true =
    list_all-append is_ascii_digit digits (c ∷ []) ∙ rw (here.all, digit) refl in
    rw (taken) (record {
      all = all;
      below = λ little. both.0 little ∙ sym (after-append 0 c digits);
      above = λ large. rw after-append (both.1 large);
    })

-- a text to its end
pub whole_field : (s place : ℕ) (text : List ℕ) → Lacks s (take place text) → length text ≤ place
    → (field s text ≡ text) × ([] ≡ rest s text)
whole_field s place text lacks end =
    let all : Lacks s text = subst (Lacks s) (take_all place text end) lacks in
    (field-alone s text all, sym (rest-alone s text all))

pub no_digit_there : (max place : ℕ) (text : List ℕ) → place < length text
    → is_ascii_digit (get_or text place 0) ≡ false → decimal_field max text ≡ Err Misspelled
unfolding decimal_field
no_digit_there max place text inside no_digit =
    let c = get_or text place 0 in
    let behind = drop (suc place) text in
    let none : list_all is_ascii_digit text ≡ false =
    ap (list_all is_ascii_digit) (split place text inside)
    ∙ list_all-append is_ascii_digit (take place text) (c ∷ behind)
    ∙ rw no_digit (and_false (list_all is_ascii_digit (take place text))) in
    let is : is_number text ≡ false = grind (arith, nat_tests, none) in
    rw is refl

-- a dash
by_dash : (b : Bool) (s c : ℕ) (cs : List ℕ) → (c == s) ≡ b → c ≢ 45 → is_dash (field s (c ∷ cs)) ≡ false
by_dash true s c cs is other = rw (field-separator s c cs is) refl
by_dash false s c cs is other =
    rw (field-other s c cs is, not_same c 45 other) (and_false (suc (length (field s cs)) == 1))

pub no_dash : (s : ℕ) (text : List ℕ) → (0 < length text → get_or text 0 0 ≢ 45) → is_dash (field s text) ≡ false
no_dash s [] other = rw field-empty refl
no_dash s (c ∷ cs) other = by_dash (c == s) s c cs refl (other (omega arith))
