-- What lies in a row, one by one and four by four.
use Rattle.std.proofs.Common.{◌≡◌, ℕ, zero, suc, ◌+◌, ◌<◌, ◌≤◌, List, [], ◌∷◌, ◌++◌, length, map, take, get_or, slice_set, sym, ap}
use Rattle.std.proofs.Common.{◌∙◌, arith, inl, inr, subst}
use Rattle.std.specs.Prelude.{Some, slice_get}
use Rattle.std.proofs.{lemmas.Bool.cases_lt, lemmas.Option.get_or_from_slice_get}
use Rattle.std.proofs.lemmas.List.{take_more, take_all, take_more_set, map-append}

pub column_more : {P : Type 0} (f : P → ℕ) (xs : List P) (column : List ℕ) (i : ℕ) (d : P) → i < length xs
    → i < length column
    → take i column ≡ map f (take i xs)
    → take (i + 1) (slice_set column i (f (get_or xs i d))) ≡ map f (take (i + 1) xs)
column_more f xs column i d inside room so_far =
    take_more_set column i (f (get_or xs i d)) room
    ∙ ap (λ t. t ++ f (get_or xs i d) ∷ []) so_far
    ∙ sym (map-append f (take i xs) (get_or xs i d ∷ []))
    ∙ ap (map f) (sym (take_more xs i d inside))

pub column_all : {P : Type 0} (f : P → ℕ) (xs : List P) (column : List ℕ) (i : ℕ) → length xs ≤ i → length column ≤ i
    → take i column ≡ map f (take i xs) → column ≡ map f xs
column_all f xs column i ends so written = sym (take_all i column so) ∙ written ∙ ap (map f) (take_all i xs ends)

-- What holds at each place so far, and at the next, holds at each so far and it.
pub places_more : {P : Type 0} (Q : ℕ → P → Type 0) (xs : List P) (i : ℕ) (d : P) → Q i (get_or xs i d)
    → ((k : ℕ) → k < i → (p : P) → slice_get xs k ≡ Some p → Q k p)
    → (k : ℕ) → k < i + 1 → (p : P) → slice_get xs k ≡ Some p → Q k p
places_more Q xs i d now before k under p at =
    elim (cases_lt k i) [
      | inl less ↦ before k less p at
      | inr not_less ↦
          let same : i ≡ k = omega arith in
          let found : get_or xs i d ≡ p = get_or_from_slice_get xs i p d (ap (slice_get xs) same ∙ at) in
          subst (λ j. Q j p) same (subst (λ q. Q i q) found now)
    ]

-- What a function gives of each of a row is the same, at every place.
pub record AreAlike {X Y : Type 0} (f : X → Y) (y : Y) (xs : List X) : Type 0 where
  pub at : (k : ℕ) (d : X) → k < length xs → f (get_or xs k d) ≡ y

more_alike : {X Y : Type 0} (f : X → Y) (y : Y) (x : X) (xs : List X) → f x ≡ y → AreAlike f y xs
    → (k : ℕ) (d : X) → k < length (x ∷ xs) → f (get_or (x ∷ xs) k d) ≡ y
more_alike f y x xs is rest zero d inside = is
more_alike f y x xs is rest (suc k) d inside = rest.at k d (omega (arith, inside))

none_alike : {X Y : Type 0} (f : X → Y) (y : Y) → AreAlike f y []
none_alike f y = record { at = λ k d inside. absurd (omega (arith, inside)) }

pub last_alike : {X Y : Type 0} (f : X → Y) {y : Y} {x : X} → f x ≡ y → AreAlike f y (x ∷ [])
last_alike f {y} {x} is = record { at = more_alike f y x [] is (none_alike f y) }

pub four_alike : {X Y : Type 0} (f : X → Y) {y : Y} {a b c d : X} {xs : List X} → f a ≡ y → f b ≡ y → f c ≡ y → f d ≡ y
    → AreAlike f y xs → AreAlike f y (a ∷ b ∷ c ∷ d ∷ xs)
four_alike f {y} {a} {b} {c} {d} {xs} at_a at_b at_c at_d rest = record {
  at = more_alike f y a (b ∷ c ∷ d ∷ xs) at_a (record {
    at = more_alike f y b (c ∷ d ∷ xs) at_b (record {
      at = more_alike f y c (d ∷ xs) at_c (record { at = more_alike f y d xs at_d rest });
    });
  });
}

-- Two lists are the same where their first four are, one by one, and so are the others.
pub four_more : {X : Type 0} {a b c d i j k l : X} {xs ys : List X} → a ≡ i → b ≡ j → c ≡ k → d ≡ l → xs ≡ ys
    → a ∷ b ∷ c ∷ d ∷ xs ≡ i ∷ j ∷ k ∷ l ∷ ys
four_more at_a at_b at_c at_d at_others = cc
