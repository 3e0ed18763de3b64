-- What is watched, a thing that is looked at at a time.
use Rattle.std.proofs.Common.{◌≡◌, ℕ, ◌+◌, ◌≤◌, ◌<◌, List, [], ◌∷◌, ◌++◌, length, take, get_or, map, Option, Some, None}
use Rattle.std.proofs.Common.{sym, ap, ◌∙◌, arith, append-nil}
use Rattle.std.specs.List.{filter_map, cons_option}
use Rattle.std.proofs.lemmas.List.{take_more, length-take-le, map-append}
use Rattle.std.proofs.lemmas.List.Elements.{filter_map-append}
use Rattle.litmus_tests.specs.declared.condition.Observed.{Observed}
use Rattle.litmus_tests.specs.declared.location.Location.{Location}
use Rattle.litmus_images.specs.Watching.{location_of, cell_of, words_observed}
use Rattle.watched_outcomes.specs.declared.watch.WatchedBytes.{WatchedBytes}

-- one thing more, which is of the kind, or isn't
more_by : {X Y : Type 0} (h : X → Option Y) (xs : List X) (i : ℕ) (d : X) → i < length xs
    → filter_map h (take i xs) ++ cons_option (h (get_or xs i d)) [] ≡ filter_map h (take (i + 1) xs)
more_by h xs i d inside =
    sym (filter_map-append h (take i xs) (get_or xs i d ∷ [])) ∙ ap (filter_map h) (sym (take_more xs i d inside))

pub some_more : {X Y : Type 0} (h : X → Option Y) (xs : List X) (i : ℕ) (d : X) (y : Y) → i < length xs
    → Some y ≡ h (get_or xs i d) → filter_map h (take i xs) ++ y ∷ [] ≡ filter_map h (take (i + 1) xs)
some_more h xs i d y inside is =
    ap (λ o. filter_map h (take i xs) ++ cons_option o []) is ∙ more_by h xs i d inside

pub none_more : {X Y : Type 0} (h : X → Option Y) (xs : List X) (i : ℕ) (d : X) → i < length xs
    → None ≡ h (get_or xs i d) → filter_map h (take i xs) ≡ filter_map h (take (i + 1) xs)
none_more h xs i d inside is =
    sym (append-nil (filter_map h (take i xs))) ∙ ap (λ o. filter_map h (take i xs) ++ cons_option o []) is
    ∙ more_by h xs i d inside

pub word_more : (locations : List Location) (observed : List Observed) (i : ℕ) (d : Observed) (index : ℕ)
    (cell : WatchedBytes) (old : List WatchedBytes) → i < length observed
    → Some index ≡ location_of (get_or observed i d) → cell ≡ cell_of locations index
    → old ≡ words_observed locations (take i observed)
    → old ++ cell ∷ [] ≡ words_observed locations (take (i + 1) observed)
word_more locations observed i d index cell old inside is at so_far =
    ap (λ l. l ++ cell ∷ []) so_far
    ∙ ap (λ w. words_observed locations (take i observed) ++ w ∷ []) at
    ∙ sym (map-append (cell_of locations) (filter_map location_of (take i observed)) (index ∷ []))
    ∙ ap (map (cell_of locations)) (some_more location_of observed i d index inside is)

-- room for one more
option_short : {Y : Type 0} (o : Option Y) (ys : List Y) → length (cons_option o ys) ≤ 1 + length ys
option_short None ys = omega arith
option_short (Some y) ys = omega arith

short : {X Y : Type 0} (h : X → Option Y) (xs : List X) → length (filter_map h xs) ≤ length xs
short h [] = omega arith
short h (x ∷ xs) =
    let step = option_short (h x) (filter_map h xs) in let so_far = short h xs in omega (arith, step, so_far)

pub room : {X Y : Type 0} (h : X → Option Y) (xs : List X) (i : ℕ) → length xs ≤ 64 → i < length xs
    → length (filter_map h (take i xs)) < 64
room h xs i few inside =
    let part = length-take-le i xs (omega arith) in let small = short h (take i xs) in omega (arith, part, small)
