-- The lines that a loop writes.
use Rattle.std.proofs.Common.{◌≡◌, ℕ, ◌+◌, ◌<◌, List, length, take, get_or, Some, Option, sym, ap}
use Rattle.std.proofs.Common.{subst, ◌∙◌, arith, slice_get, slice_index, slice_index_or}
use Rattle.std.specs.Io.KnownBytes.{Appends}
use Rattle.text_fields.proofs.Appending.{each_step, member, told_step}
use Rattle.std.proofs.Common.{Bool, true, false, refl}
use Rattle.std.specs.List.{list_all, list_any}
use Rattle.std.proofs.lemmas.List.Folds.{list_all_at, list_all_more, list_any_at, list_any_more}
use Rattle.outcomes.specs.{Found.Told}
use Rattle.watched_outcomes.specs.{declared.watch.Watch.Watch}
use Rattle.outcome_queries.specs.declared.question.Question.{Question}
use Rattle.outcome_queries.specs.declared.watched.Asked.{Asked}
use Rattle.outcome_text.specs.Line.{column_text, columns_text}
use Rattle.outcome_text.specs.Unwritten.{unwritten_line, unwritten_text}
use Rattle.text_fields.specs.Each.{each_from}
use Rattle.outcome_text.specs.Answers.{is_named, place_of, place_text}

pub place_step : (watch : Watch) (question : Question) (old mid new : Option (List ℕ)) (xs : List Told) (i n : ℕ) (b : Bool)
    → i < n → n ≡ length xs → ((told : Told) → slice_get xs i ≡ Some told → b ≡ is_named watch question told)
    → Appends old mid (each_from (place_text watch question) 0 (take i xs)) → Appends mid new (place_of b (i + 1))
    → Appends old new (each_from (place_text watch question) 0 (take (i + 1) xs))
place_step watch question old mid new xs i n b below count is before next =
    told_step (place_text watch question) old mid new xs i n below count before
    (λ told at. subst (λ h. Appends mid new (place_of h (i + 1))) (is told at) next)

-- a condition holds of the member, or of none so far
pub found_at : (p : Told → Bool) (xs : List Told) (i n : ℕ) (b : Bool) → i < n → n ≡ length xs
    → ((told : Told) → slice_get xs i ≡ Some told → b ≡ p told) → b ≡ true → true ≡ list_any p xs
found_at p xs i n b below count is holds =
    let inside : i < length xs = omega (arith, below, count) in
    let one = member xs i inside in
    sym (list_any_at p xs i one.0 inside (ap p (one.2 one.0) ∙ sym (is one.0 one.1) ∙ holds))

pub not_so_far : (p : Told → Bool) (xs : List Told) (i n : ℕ) (b : Bool) → i < n → n ≡ length xs
    → ((told : Told) → slice_get xs i ≡ Some told → b ≡ p told) → b ≡ false → list_any p (take i xs) ≡ false
    → list_any p (take (i + 1) xs) ≡ false
not_so_far p xs i n b below count is fails before =
    let inside : i < length xs = omega (arith, below, count) in
    let one = member xs i inside in
    let this : p (get_or xs i one.0) ≡ false = ap p (one.2 one.0) ∙ sym (is one.0 one.1) ∙ fails in
    list_any_more p xs i one.0 inside ∙ rw (before, this) refl

-- it fails of the member, or holds of all so far
pub fails_at : (p : Told → Bool) (xs : List Told) (i n : ℕ) (b : Bool) → i < n → n ≡ length xs
    → ((told : Told) → slice_get xs i ≡ Some told → b ≡ p told) → b ≡ false → false ≡ list_all p xs
fails_at p xs i n b below count is fails =
    let inside : i < length xs = omega (arith, below, count) in
    let one = member xs i inside in
    sym (list_all_at p xs i one.0 inside (ap p (one.2 one.0) ∙ sym (is one.0 one.1) ∙ fails))

pub all_so_far : (p : Told → Bool) (xs : List Told) (i n : ℕ) (b : Bool) → i < n → n ≡ length xs
    → ((told : Told) → slice_get xs i ≡ Some told → b ≡ p told) → b ≡ true → list_all p (take i xs) ≡ true
    → list_all p (take (i + 1) xs) ≡ true
all_so_far p xs i n b below count is holds before =
    let inside : i < length xs = omega (arith, below, count) in
    let one = member xs i inside in
    let this : p (get_or xs i one.0) ≡ true = ap p (one.2 one.0) ∙ sym (is one.0 one.1) ∙ holds in
    list_all_more p xs i one.0 inside ∙ rw (before, this) refl

-- a turn of a loop over columns, with their numbers
pub columns_step : (before : ℕ) (numbers : List ℕ) (old mid new : Option (List ℕ)) (xs : List Asked) (i n : ℕ)
    (d : Asked) → i < length xs → n ≡ slice_index numbers i
    → Appends old mid (columns_text before (take i xs) numbers)
    → Appends mid new (column_text before i (get_or xs i d) n)
    → Appends old new (columns_text before (take (i + 1) xs) numbers)
columns_step before numbers old mid new xs i n d inside is so_far next =
    each_step (λ index asked. column_text before index asked (slice_index numbers index)) old mid new xs i d inside so_far
    (subst (λ k. Appends mid new (column_text before i (get_or xs i d) k)) is next)

-- a turn of a loop over columns, each with whether it is unwritten
pub unwritten_step : (unwritten : List Bool) (old mid new : Option (List ℕ)) (xs : List Asked) (i : ℕ) (is : Bool)
    (d : Asked) → i < length xs → is ≡ slice_index_or unwritten i false
    → Appends old mid (each_from (unwritten_text unwritten) 0 (take i xs))
    → Appends mid new (unwritten_line is (get_or xs i d).watched)
    → Appends old new (each_from (unwritten_text unwritten) 0 (take (i + 1) xs))
unwritten_step unwritten old mid new xs i is d inside same so_far next =
    each_step (unwritten_text unwritten) old mid new xs i d inside so_far
    (subst (λ b. Appends mid new (unwritten_line b (get_or xs i d).watched)) same next)
