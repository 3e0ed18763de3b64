-- The first outcome that settles a question, as a loop looks for it.
use Rattle.std.proofs.Common.{◌≡◌, ℕ, zero, suc, ◌+◌, ◌<◌, ◌≤◌, Bool, true, false, ◌||◌, List, [], ◌∷◌, length, take, get_or}
use Rattle.std.proofs.Common.{Option, Some, None, slice_get, refl, sym, ap, ◌∙◌, arith}
use Rattle.std.specs.List.{list_any, position, position_or_len}
use Rattle.std.proofs.{lemmas.Grind.common_steps}
use Rattle.std.proofs.lemmas.List.Folds.{list_any_more}
use Rattle.std.proofs.lemmas.List.{take_all}
use Rattle.outcomes.specs.{Found.Told}
use Rattle.text_fields.proofs.Appending.{member}

left_false : (a b : Bool) → (a || b) ≡ false → a ≡ false
left_false true b is = cc
left_false false b is = refl

right_false : (a b : Bool) → (a || b) ≡ false → b ≡ false
right_false true b is = cc
right_false false b is = is

-- it stands at this place, where none before it settles; and nowhere, where none does
place_at : (p : Told → Bool) (xs : List Told) (i : ℕ) (d : Told) → i < length xs → list_any p (take i xs) ≡ false
    → p (get_or xs i d) ≡ true → position_or_len p xs ≡ i
place_at p [] i d inside before here = absurd (omega arith)
place_at p (x ∷ xs) zero d inside before here = rw here refl
place_at p (x ∷ xs) (suc i) d inside before here =
    let not_first : p x ≡ false = left_false (p x) (list_any p (take i xs)) before in
    let later = place_at p xs i d (omega arith) (right_false (p x) (list_any p (take i xs)) before) here in
    let next : position_or_len p (x ∷ xs) ≡ suc (position_or_len p xs) = rw not_first (omega arith) in
    next ∙ ap suc later

no_place : (p : Told → Bool) (xs : List Told) → list_any p xs ≡ false → position_or_len p xs ≡ length xs
no_place p [] none = refl
no_place p (x ∷ xs) none =
    let not_first : p x ≡ false = left_false (p x) (list_any p xs) none in
    let later = no_place p xs (right_false (p x) (list_any p xs) none) in
    let next : position_or_len p (x ∷ xs) ≡ suc (position_or_len p xs) = rw not_first (omega arith) in
    next ∙ ap suc later

pub found_at : (p : Told → Bool) (xs : List Told) (i n : ℕ) (b : Bool) → i < n → n ≡ length xs
    → ((told : Told) → slice_get xs i ≡ Some told → b ≡ p told) → b ≡ true → list_any p (take i xs) ≡ false
    → Some i ≡ position p xs
found_at p xs i n b below count is holds before =
    let inside : i < length xs = omega (arith, below, count) in
    let one = member xs i inside in
    let here : p (get_or xs i one.0) ≡ true = ap p (one.2 one.0) ∙ sym (is one.0 one.1) ∙ holds in
    let at = place_at p xs i one.0 inside before here in grind (arith, common_steps)

pub not_so_far : (p : Told → Bool) (xs : List Told) (i n : ℕ) (b : Bool) → i < n → n ≡ length xs
    → ((told : Told) → slice_get xs i ≡ Some told → b ≡ p told) → b ≡ false → list_any p (take i xs) ≡ false
    → list_any p (take (i + 1) xs) ≡ false
not_so_far p xs i n b below count is fails before =
    let inside : i < length xs = omega (arith, below, count) in
    let one = member xs i inside in
    let this : p (get_or xs i one.0) ≡ false = ap p (one.2 one.0) ∙ sym (is one.0 one.1) ∙ fails in
    list_any_more p xs i one.0 inside ∙ rw (before, this) refl

pub found_nowhere : (p : Told → Bool) (xs : List Told) → list_any p xs ≡ false → None ≡ position p xs
found_nowhere p xs none = let at = no_place p xs none in grind (arith, common_steps)

-- what holds of none of those that were seen holds of none, where all were
pub all_seen : (p : Told → Bool) (xs : List Told) (i n : ℕ) → n ≡ length xs → n ≤ i → list_any p (take i xs) ≡ false
    → list_any p xs ≡ false
all_seen p xs i n count past none =
    let whole : take i xs ≡ xs = take_all i xs (omega (arith, count, past)) in ap (list_any p) (sym whole) ∙ none
