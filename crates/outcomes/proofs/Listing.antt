-- Lists of outcomes.
use Rattle.std.specs.Prelude.{◌≡◌, ◌≢◌, ◌⊎◌, ℕ, AllPairs, ◌+◌, ◌-◌, ◌<◌, ◌≤◌, List, length, map, Contains, Some, slice_get}
use Rattle.std.specs.Prelude.{slice_index_or, option_map, Option, None}
use Rattle.std.proofs.Common.{◌∙◌, refl, sym, ap, subst, inl, inr, arith}
use Rattle.smt_laws.proofs.Done.{some_one as inside}
use Rattle.std.proofs.lemmas.Bool.{cases_lt, cases_order}
use Rattle.std.proofs.lemmas.Option.{slice_get-map, slice_get-get_or, get_or_from_slice_get, slice_get_cases}
use Rattle.std.proofs.lemmas.List.{length-map}
use Rattle.searches.proofs.Places.{contains_at, place_of}
use Rattle.outcomes.specs.{Found.Told, Lists.HasEnding, Lists.IsPut, Lists.AreOnce}
use Rattle.outcomes.specs.declared.listed.Listed.{Listed}

pub contains_map : {X Y : Type 0} (f : X → Y) (xs : List X) (x : X) → Contains xs x → Contains (map f xs) (f x)
contains_map f xs x c =
    let at = place_of xs x c in
    contains_at (map f xs) at.0 (f x) (slice_get-map f xs at.0 ∙ ap (option_map f) at.1)

-- What a mapped list has is mapped from what the list has.
pub mapped_from : {X Y : Type 0} (f : X → Y) (xs : List X) (y : Y) → Contains (map f xs) y
    → (x : X) × Contains xs x × (f x ≡ y)
mapped_from {X} {Y} f xs y c = by (slice_get xs at.0) refl (sym (slice_get-map f xs at.0) ∙ at.1)
  where
    at : (k : ℕ) × (slice_get (map f xs) k ≡ Some y)
    at = place_of (map f xs) y c

    by : (o : Option X) → slice_get xs at.0 ≡ o → option_map f (slice_get xs at.0) ≡ Some y
        → (x : X) × Contains xs x × (f x ≡ y)
    by None is same = absurd (grind (arith, is, same))
    by (Some x) is same =
        (x, contains_at xs at.0 x is, inside (f x) y (subst (λ o. option_map f o ≡ Some y) is same))

-- A list into which an element was put at a place, as `Vec::insert` says it.
pub record IsInserted {X : Type 0} (old : List X) (place : ℕ) (x : X) (new : List X) : Type 0 where
  pub long : length new ≡ length old + 1
  pub within : place ≤ length old
  pub here : (d : X) → slice_index_or new place d ≡ x
  pub before : (k : ℕ) (d : X) → k < place → slice_index_or new k d ≡ slice_index_or old k d
  pub behind : (k : ℕ) (d : X) → place < k → slice_index_or new k d ≡ slice_index_or old (k - 1) d

keeps_all : {X : Type 0} (old new : List X) (place : ℕ) (x y : X) → IsInserted old place x new → Contains old y
    → Contains new y
keeps_all {X} old new place x y is c = by (cases_lt c.0 place)
  where
    long : length new ≡ length old + 1
    long = is.long

    next : c.0 + 1 - 1 ≡ c.0
    next = omega arith

    by : (c.0 < place) ⊎ (place ≤ c.0) → Contains new y
    by (inl before) = let inside = c.1 in (c.0, omega (arith, long), is.before c.0 y before ∙ c.2)
    by (inr behind) =
        let inside = c.1 in (
          c.0 + 1,
          omega (arith, long),
          is.behind (c.0 + 1) y (omega arith) ∙ (ap (λ k. slice_index_or old k y) next ∙ c.2),
        )

has_it : {X : Type 0} (old new : List X) (place : ℕ) (x : X) → IsInserted old place x new → Contains new x
has_it old new place x is =
    let long = is.long in let within = is.within in (place, omega arith, is.here x)

only_it : {X : Type 0} (old new : List X) (place : ℕ) (x y : X) → IsInserted old place x new → Contains new y
    → Contains old y ⊎ (y ≡ x)
only_it {X} old new place x y is c = by (cases_order c.0 place)
  where
    long : length new ≡ length old + 1
    long = is.long

    within : place ≤ length old
    within = is.within

    by : (c.0 ≡ place) ⊎ ((c.0 < place) ⊎ (place < c.0)) → Contains old y ⊎ (y ≡ x)
    by (inl same) = inr (sym c.2 ∙ (ap (λ k. slice_index_or new k y) same ∙ is.here y))
    by (inr (inl before)) = inl (c.0, omega arith, sym (is.before c.0 y before) ∙ c.2)
    by (inr (inr behind)) =
        let inside = c.1 in inl (c.0 - 1, omega (arith, long), sym (is.behind c.0 y behind) ∙ c.2)

pub put_in : (old new : List Listed) (place : ℕ) (more : Listed) → IsInserted old place more new → IsPut old more new
put_in old new place more is = record {
  keeps = λ l. keeps_all old new place more l is;
  has = (more, has_it old new place more is, refl);
  only = λ l. only_it old new place more l is;
}

pub is_there : (old : List Listed) (l more : Listed) → Contains old l → l.outcome ≡ more.outcome → IsPut old more old
is_there old l more c same = record { keeps = λ k c. c; has = (l, c, same); only = λ k c. inl c }

-- ---- Each once

-- What stands at a place of a list is in it.
at_place : {X : Type 0} (xs : List X) (k : ℕ) (d : X) → k < length xs → Contains xs (slice_index_or xs k d)
at_place xs k d inside = contains_at xs k (slice_index_or xs k d) (slice_get-get_or xs k d inside)

pub once_put : (old new : List Listed) (place : ℕ) (more : Listed) → IsInserted old place more new
    → (HasEnding old more.outcome → ⊥) → AreOnce old → AreOnce new
once_put old new place more is absent once i j d before inside = by (cases_order i place) (cases_order j place)
  where
    long : length new ≡ length old + 1
    long = is.long

    within : place ≤ length old
    within = is.within

    differ : (a b : Listed) → a ≡ slice_index_or new i d → b ≡ slice_index_or new j d → a.outcome ≢ b.outcome
        → (slice_index_or new i d).outcome ≢ (slice_index_or new j d).outcome
    differ a b one other not same =
        not (ap (λ (l : Listed). l.outcome) one ∙ (same ∙ sym (ap (λ (l : Listed). l.outcome) other)))

    not_more : (k : ℕ) → k < length old → (slice_index_or old k d).outcome ≢ more.outcome
    not_more k there same = absent (slice_index_or old k d, at_place old k d there, same)

    by : (i ≡ place) ⊎ ((i < place) ⊎ (place < i)) → (j ≡ place) ⊎ ((j < place) ⊎ (place < j))
        → (slice_index_or new i d).outcome ≢ (slice_index_or new j d).outcome
    by (inl at) (inl and) = absurd (omega (arith, at, and, before))
    by (inl at) (inr (inl lower)) = absurd (omega (arith, at, lower, before))
    by (inl at) (inr (inr higher)) =
        differ more (slice_index_or old (j - 1) d) (sym (ap (λ k. slice_index_or new k d) at ∙ is.here d))
        (sym (is.behind j d higher)) (λ same. not_more (j - 1) (omega (arith, long, inside)) (sym same))
    by (inr (inl low)) (inl at) =
        differ (slice_index_or old i d) more (sym (is.before i d low))
        (sym (ap (λ k. slice_index_or new k d) at ∙ is.here d)) (not_more i (omega (arith, low, within)))
    by (inr (inl low)) (inr (inl lower)) =
        differ (slice_index_or old i d) (slice_index_or old j d) (sym (is.before i d low)) (sym (is.before j d lower))
        (once i j d before (omega (arith, lower, within)))
    by (inr (inl low)) (inr (inr higher)) =
        differ (slice_index_or old i d) (slice_index_or old (j - 1) d) (sym (is.before i d low))
        (sym (is.behind j d higher)) (once i (j - 1) d (omega (arith, low, higher)) (omega (arith, long, inside)))
    by (inr (inr high)) (inl at) = absurd (omega (arith, at, high, before))
    by (inr (inr high)) (inr (inl lower)) = absurd (omega (arith, high, lower, before))
    by (inr (inr high)) (inr (inr higher)) =
        differ (slice_index_or old (i - 1) d) (slice_index_or old (j - 1) d) (sym (is.behind i d high))
        (sym (is.behind j d higher))
        (once (i - 1) (j - 1) d (omega (arith, high, before)) (omega (arith, long, inside)))

-- What stands at a place of a mapped list, by what stands there in the list.
mapped_at : {X Y : Type 0} (f : X → Y) (xs : List X) (k : ℕ) (d : Y) → k < length xs
    → (x : X) × ((e : X) → slice_index_or xs k e ≡ x) × (slice_index_or (map f xs) k d ≡ f x)
mapped_at {X} {Y} f xs k d within = by (slice_get_cases xs k).1
  where
    by : ((x : X) × (k < length xs) × (slice_get xs k ≡ Some x) × (slice_index_or xs k x ≡ x))
        ⊎ ((length xs ≤ k) × (slice_get xs k ≡ None))
        → (x : X) × ((e : X) → slice_index_or xs k e ≡ x) × (slice_index_or (map f xs) k d ≡ f x)
    by (inr beyond) = absurd (omega (arith, beyond.0, within))
    by (inl found) = (
      found.0,
      λ e. get_or_from_slice_get xs k found.0 e found.2,
      get_or_from_slice_get (map f xs) k (f found.0) d (slice_get-map f xs k ∙ ap (option_map f) found.2),
    )

pub once_told : (told : Listed → Told) (listed : List Listed) → ((l : Listed) → (told l).ending ≡ l.outcome)
    → AreOnce listed → AllPairs (λ (a b : Told). a.ending ≢ b.ending) (map told listed)
once_told told listed tells once i j d before inside =
    let there : j < length listed = omega (arith, length-map listed told, inside) in
    let one = mapped_at told listed i d (omega (arith, before, there)) in
    let other = mapped_at told listed j d there in
    λ same.
    once i j one.0 before there
    (ap (λ (l : Listed). l.outcome) (one.1 one.0)
    ∙ (sym (tells one.0) ∙ (ap (λ (t : Told). t.ending) (sym one.2) ∙ (same ∙ (ap (λ (t : Told). t.ending) other.2
    ∙ (tells other.0 ∙ ap (λ (l : Listed). l.outcome) (sym (other.1 one.0))))))))
