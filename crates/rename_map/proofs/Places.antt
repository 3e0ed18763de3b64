-- What is kept in some places, where one of them changes or is looked at.
use Rattle.std.proofs.Common.{◌≡◌, ℕ, Bool, zero, suc, ◌+◌, ◌<◌, ◌≤◌, ◌==◌, not, true, false, nat_le, nat_lt, List, [], ◌∷◌}
use Rattle.std.proofs.Common.{◌++◌, length, filter, map, take, set, get_or, Option, Some, None, is_some, refl, ap}
use Rattle.std.proofs.Common.{◌∙◌, sym, inl, inr, arith}
use Rattle.std.specs.List.{AllByRecursion}
use Rattle.std.proofs.lemmas.Bool.{cases_Bool, Decides.nat_tests}
use Rattle.rename_map.specs.Maps.{Checkpoint, KeepsToo, released, released_after}
use Rattle.rename_map.specs.Places.{kept_by, kept_in, number_left, left, place_released, place_released_after, IsWhole}
use Rattle.rename_map.specs.declared.checkpoints.Place.{Place}

-- ---- Places that are freed

left_by : (test : ℕ → Bool) (n : Option ℕ) (m : List ℕ) (ks : List Checkpoint)
    → kept_by (number_left test n) m (filter (λ k. not (test k.seq)) ks) ≡ filter (λ k. not (test k.seq)) (kept_by n m ks)
left_by test None m ks = refl
left_by test (Some s) m ks = elim (cases_Bool (test s)) [ inl t ↦ rw t refl | inr f ↦ rw f refl ]

pub kept_left : (test : ℕ → Bool) (xs : List Place)
    → kept_in (map (left test) xs) ≡ filter (λ k. not (test k.seq)) (kept_in xs)
kept_left test [] = refl
kept_left test (x ∷ xs) =
    ap (kept_by (number_left test x.number) x.map) (kept_left test xs) ∙ left_by test x.number x.map (kept_in xs)

not_after : (seq s : ℕ) → not (nat_lt seq s) ≡ nat_le s seq
not_after seq s = grind (arith, nat_tests)

filter_same : (one two : ℕ → Bool) → ((s : ℕ) → one s ≡ two s) → (ks : List Checkpoint)
    → filter (λ k. one k.seq) ks ≡ filter (λ k. two k.seq) ks
filter_same one two same [] = refl
filter_same one two same (k ∷ ks) = elim (cases_Bool (one k.seq)) [
  | inl t ↦ rw (t, sym (same k.seq) ∙ t) (ap (λ l. k ∷ l) (filter_same one two same ks))
  | inr f ↦ rw (f, sym (same k.seq) ∙ f) (filter_same one two same ks)
]

pub kept_released : (seq : ℕ) (xs : List Place) → kept_in (map (place_released seq) xs) ≡ released seq (kept_in xs)
kept_released seq xs = kept_left (λ s. s == seq) xs

pub kept_released_after : (seq : ℕ) (xs : List Place)
    → kept_in (map (place_released_after seq) xs) ≡ released_after seq (kept_in xs)
kept_released_after seq xs =
    kept_left (λ s. nat_lt seq s) xs
    ∙ filter_same (λ s. not (nat_lt seq s)) (λ s. nat_le s seq) (not_after seq) (kept_in xs)

-- ---- A free place is taken

kept_by-append : (n : Option ℕ) (m : List ℕ) (ks ls : List Checkpoint) → kept_by n m (ks ++ ls) ≡ kept_by n m ks ++ ls
kept_by-append None m ks ls = refl
kept_by-append (Some s) m ks ls = refl

none_by : (n : Option ℕ) (m : List ℕ) (ks : List Checkpoint) → is_some n ≡ false → kept_by n m ks ≡ ks
none_by None m ks free = refl
none_by (Some s) m ks free = absurd (grind arith)

pub taken : (xs : List Place) (i : ℕ) (d : Place) (seq : ℕ) (m : List ℕ) → i < length xs
    → is_some (get_or xs i d).number ≡ false
    → KeepsToo (record { seq = seq; map = m }) (kept_in xs) (kept_in (set xs i (record { number = Some seq; map = m })))
taken [] i d seq m inside free = absurd (omega (arith, inside))
taken (x ∷ xs) zero d seq m inside free =
    record { front = []; rest = kept_in xs; was = none_by x.number x.map (kept_in xs) free; now = refl }
taken (x ∷ xs) (suc i) d seq m inside free =
    let later = taken xs i d seq m (omega (arith, inside)) free in
    record {
      front = kept_by x.number x.map later.front;
      rest = later.rest;
      was = ap (kept_by x.number x.map) later.was ∙ kept_by-append x.number x.map later.front later.rest;
      now = ap (kept_by x.number x.map) later.now
          ∙ kept_by-append x.number x.map later.front (record { seq = seq; map = m } ∷ later.rest);
    }

-- ---- How many are taken

length_by : (n : Option ℕ) (m : List ℕ) (ks : List Checkpoint) → length (kept_by n m ks) ≤ length ks + 1
length_by None m ks = omega arith
length_by (Some s) m ks = omega arith

kept_within : (xs : List Place) → length (kept_in xs) ≤ length xs
kept_within [] = omega arith
kept_within (x ∷ xs) =
    let one = length_by x.number x.map (kept_in xs) in
    let rest = kept_within xs in
    omega (arith, one, rest)

pub some_free : (xs : List Place) (i : ℕ) (d : Place) → i < length xs → is_some (get_or xs i d).number ≡ false
    → length (kept_in xs) < length xs
some_free [] i d inside free = absurd (omega (arith, inside))
some_free (x ∷ xs) zero d inside free =
    let rest = kept_within xs in
    let none = ap length (none_by x.number x.map (kept_in xs) free) in
    omega (arith, rest, none)
some_free (x ∷ xs) (suc i) d inside free =
    let one = length_by x.number x.map (kept_in xs) in
    let rest = some_free xs i d (omega (arith, inside)) free in
    omega (arith, one, rest)

taken_by : (n : Option ℕ) (m : List ℕ) (ks : List Checkpoint) → is_some n ≡ true
    → length (kept_by n m ks) ≡ length ks + 1
taken_by None m ks is = absurd (grind arith)
taken_by (Some s) m ks is = omega arith

same_by : (n : Option ℕ) (m : List ℕ) (ks ls : List Checkpoint) → length ks ≡ length ls + 1
    → length (kept_by n m ks) ≡ length (kept_by n m ls) + 1
same_by None m ks ls is = is
same_by (Some s) m ks ls is = omega (arith, is)

more : (xs : List Place) (i : ℕ) (d : Place) → i < length xs → is_some (get_or xs i d).number ≡ true
    → length (kept_in (take (suc i) xs)) ≡ length (kept_in (take i xs)) + 1
more [] i d inside is = absurd (omega (arith, inside))
more (x ∷ xs) zero d inside is = taken_by x.number x.map [] is
more (x ∷ xs) (suc i) d inside is =
    same_by x.number x.map (kept_in (take (suc i) xs)) (kept_in (take i xs)) (more xs i d (omega (arith, inside)) is)

pub one_more : (xs : List Place) (i : ℕ) (d : Place) → i < length xs → is_some (get_or xs i d).number ≡ true
    → length (kept_in (take (i + 1) xs)) ≡ length (kept_in (take i xs)) + 1
one_more xs i d inside is =
    let on : i + 1 ≡ suc i = omega arith in
    ap (λ n. length (kept_in (take n xs))) on ∙ more xs i d inside is

-- ---- Each map is whole

pub whole_at : (xs : List Place) (i : ℕ) (d : Place) → i < length xs → AllByRecursion IsWhole xs → IsWhole (get_or xs i d)
whole_at [] i d inside all = absurd (omega (arith, inside))
whole_at (x ∷ xs) zero d inside all = all.0
whole_at (x ∷ xs) (suc i) d inside all = whole_at xs i d (omega (arith, inside)) all.1

pub whole_set : (xs : List Place) (i : ℕ) (x : Place) → IsWhole x → AllByRecursion IsWhole xs
    → AllByRecursion IsWhole (set xs i x)
whole_set [] i x is all = tt
whole_set (y ∷ ys) zero x is all = (is, all.1)
whole_set (y ∷ ys) (suc i) x is all = (all.0, whole_set ys i x is all.1)

pub whole_left : (test : ℕ → Bool) (xs : List Place) → AllByRecursion IsWhole xs
    → AllByRecursion IsWhole (map (left test) xs)
whole_left test [] all = tt
whole_left test (x ∷ xs) all = (all.0, whole_left test xs all.1)
