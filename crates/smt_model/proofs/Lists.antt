-- Lists of numbers: which members a filter keeps, and what it finds first. All by recursion on the list.
use Rattle.std.specs.Prelude.{◌≡◌, ◌≢◌, ◌⊎◌, ℕ, ◌+◌, ◌<◌, ◌≤◌, Bool, true, false, not, ◌==◌, ◌&&◌, ◌||◌, List, [], ◌∷◌}
use Rattle.std.specs.Prelude.{◌++◌, Some, None}
use Rattle.std.specs.List.{filter}
use Rattle.std.proofs.Common.{◌∙◌, refl, sym, subst, inl, inr, arith}
use Rattle.std.proofs.{lemmas.Bool.cases_Bool, lemmas.Bool.cases_eq, lemmas.Bool.Decides.nat_tests}
use Rattle.smt_model.specs.Basics.{first, how_many}

-- ---- Words

-- n stands in the list.
abbrev pub member : ℕ → List ℕ → Bool
member n [] = false
member n (x ∷ xs) = (x == n) || member n xs

-- All members have it.
abbrev pub Each : (ℕ → Type 0) → List ℕ → Type 0
Each P [] = Unit {0}
Each P (x ∷ xs) = P x × Each P xs

-- Each is below, or above, all behind it.
abbrev pub Rises : List ℕ → Type 0
Rises [] = Unit {0}
Rises (x ∷ xs) = Each (λ y. x < y) xs × Rises xs

-- Each of those that pass a test is above those that pass it behind it.
abbrev pub FallsOf : (ℕ → Bool) → List ℕ → Type 0
FallsOf p [] = Unit {0}
FallsOf p (x ∷ xs) = (p x ≡ true → Each (λ y. p y ≡ true → y < x) xs) × FallsOf p xs

-- ---- Members

pub member-behind : (x n : ℕ) (xs : List ℕ) → member n xs ≡ true → member n (x ∷ xs) ≡ true
member-behind x n xs m = grind (arith, nat_tests)

pub member-append : (n : ℕ) (xs ys : List ℕ) → member n (xs ++ ys) ≡ (member n xs || member n ys)
member-append n [] ys = refl
member-append n (x ∷ xs) ys = grind (arith, nat_tests, member-append n xs ys)

pub Each-all : (P : ℕ → Type 0) (xs : List ℕ) → ((x : ℕ) → member x xs ≡ true → P x) → Each P xs
Each-all P [] all = tt
Each-all P (x ∷ xs) all =
    (all x (grind (arith, nat_tests)), Each-all P xs (λ y m. all y (member-behind x y xs m)))

pub Each-at : (P : ℕ → Type 0) (xs : List ℕ) → Each P xs → (n : ℕ) → member n xs ≡ true → P n
Each-at P [] e n m = grind arith
Each-at P (x ∷ xs) e n m =
    let cases : (x ≡ n) ⊎ ((x == n) ≡ false) = grind (arith, nat_tests) in
    elim cases [
      | inl same ↦ subst P same e.0
      | inr other ↦ Each-at P xs e.1 n (grind arith)
    ]

pub Each-append : (P : ℕ → Type 0) (xs ys : List ℕ) → Each P xs → Each P ys → Each P (xs ++ ys)
Each-append P [] ys e g = g
Each-append P (x ∷ xs) ys e g = (e.0, Each-append P xs ys e.1 g)

-- A member of what a filter keeps is a member, and passes.
pub member-filter : (p : ℕ → Bool) (n : ℕ) (xs : List ℕ) → member n (filter p xs) ≡ true
    → (member n xs ≡ true) × (p n ≡ true)
member-filter p n [] m = grind arith
member-filter p n (x ∷ xs) m = grind (arith, nat_tests, member-filter p n xs)

pub filter-member : (p : ℕ → Bool) (n : ℕ) (xs : List ℕ) → member n xs ≡ true → p n ≡ true
    → member n (filter p xs) ≡ true
filter-member p n [] m k = grind arith
filter-member p n (x ∷ xs) m k = grind (arith, nat_tests, filter-member p n xs)

pub Each-filter : (P : ℕ → Type 0) (p : ℕ → Bool) (xs : List ℕ) → Each P xs → Each P (filter p xs)
Each-filter P p [] e = tt
Each-filter P p (x ∷ xs) e =
    let cases : (p x ≡ true) ⊎ (p x ≡ false) = cases_Bool (p x) in
    elim cases [
      | inl kept ↦ rw kept (e.0, Each-filter P p xs e.1)
      | inr lost ↦ rw lost (Each-filter P p xs e.1)
    ]

-- ---- Rising

pub Rises-filter : (p : ℕ → Bool) (xs : List ℕ) → Rises xs → Rises (filter p xs)
Rises-filter p [] r = tt
Rises-filter p (x ∷ xs) r =
    let cases : (p x ≡ true) ⊎ (p x ≡ false) = cases_Bool (p x) in
    elim cases [
      | inl kept ↦ rw kept (Each-filter (λ y. x < y) p xs r.0, Rises-filter p xs r.1)
      | inr lost ↦ rw lost (Rises-filter p xs r.1)
    ]

pub Rises-push : (xs : List ℕ) (n : ℕ) → Rises xs → ((x : ℕ) → member x xs ≡ true → x < n) → Rises (xs ++ n ∷ [])
Rises-push [] n r all = (tt, tt)
Rises-push (x ∷ xs) n r all = (
  Each-append (λ y. x < y) xs (n ∷ []) r.0 (all x (grind (arith, nat_tests)), tt),
  Rises-push xs n r.1 (λ y m. all y (member-behind x y xs m)),
)

-- The first of a rising list is its least.
pub first-least : (xs : List ℕ) (n : ℕ) → Rises xs → first xs ≡ Some n → (y : ℕ) → member y xs ≡ true → n ≤ y
first-least [] n r f y m = grind arith
first-least (x ∷ xs) n r f y m =
    let cases : (x ≡ y) ⊎ (member y xs ≡ true) = grind (arith, nat_tests) in
    elim cases [
      | inl same ↦ grind arith
      | inr behind ↦ let above : x < y = Each-at (λ z. x < z) xs r.0 y behind in grind arith
    ]

pub first-member : (xs : List ℕ) (n : ℕ) → first xs ≡ Some n → member n xs ≡ true
first-member [] n f = grind arith
first-member (x ∷ xs) n f = grind (arith, nat_tests)

-- ---- Filters of one list by two tests

pub filter-same : (p q : ℕ → Bool) (xs : List ℕ) → ((x : ℕ) → member x xs ≡ true → p x ≡ q x)
    → filter p xs ≡ filter q xs
filter-same p q [] all = refl
filter-same p q (x ∷ xs) all =
    let same : p x ≡ q x = all x (grind (arith, nat_tests)) in
    let behind : filter p xs ≡ filter q xs = filter-same p q xs (λ y m. all y (member-behind x y xs m)) in
    rw (same, behind)

pub filter-append : (p : ℕ → Bool) (xs ys : List ℕ) → filter p (xs ++ ys) ≡ filter p xs ++ filter p ys
filter-append p [] ys = refl
filter-append p (x ∷ xs) ys =
    let cases : (p x ≡ true) ⊎ (p x ≡ false) = cases_Bool (p x) in
    elim cases [
      | inl kept ↦ rw (kept, filter-append p xs ys)
      | inr lost ↦ rw (lost, filter-append p xs ys)
    ]

pub filter-none : (p : ℕ → Bool) (xs : List ℕ) → ((x : ℕ) → member x xs ≡ true → p x ≡ false) → filter p xs ≡ []
filter-none p [] all = refl
filter-none p (x ∷ xs) all =
    let here : p x ≡ false = all x (grind (arith, nat_tests)) in
    rw here (filter-none p xs (λ y m. all y (member-behind x y xs m)))

-- A filter of a filter.
pub filter-both : (p q : ℕ → Bool) (xs : List ℕ) → filter p (filter q xs) ≡ filter (λ x. p x && q x) xs
filter-both p q [] = refl
filter-both p q (x ∷ xs) =
    let cases : (q x ≡ true) ⊎ (q x ≡ false) = cases_Bool (q x) in
    elim cases [
      | inl kept ↦ grind (arith, filter-both p q xs)
      | inr lost ↦ grind (arith, filter-both p q xs)
    ]

-- All that passed stays but for the first, which goes.
pub filter-loses-first : (p q : ℕ → Bool) (n : ℕ) (xs : List ℕ) → Rises xs → first (filter p xs) ≡ Some n → q n ≡ false
    → ((x : ℕ) → member x xs ≡ true → x ≢ n → q x ≡ p x) → filter p xs ≡ n ∷ filter q xs
filter-loses-first p q n [] r f lost same = grind arith
filter-loses-first p q n (x ∷ xs) r f lost same =
    let cases : (p x ≡ true) ⊎ (p x ≡ false) = cases_Bool (p x) in
    elim cases [
      | inl kept ↦
          let here : x ≡ n = grind arith in
          let gone : q x ≡ false = grind arith in
          let others : filter p xs ≡ filter q xs =
          filter-same p q xs (λ y m.
          let above : x < y = Each-at (λ z. x < z) xs r.0 y m in
          sym (same y (member-behind x y xs m) (omega arith))) in
          rw (kept, gone, others, here)
      | inr gone ↦
          let rest : first (filter p xs) ≡ Some n = grind arith in
          let there : member n xs ≡ true = (member-filter p n xs (first-member (filter p xs) n rest)).0 in
          let above : x < n = Each-at (λ z. x < z) xs r.0 n there in
          let also : q x ≡ p x = same x (grind (arith, nat_tests)) (omega arith) in
          rw (also, gone) (filter-loses-first p q n xs r.1 rest lost (λ y m. same y (member-behind x y xs m)))
    ]

-- One more passes, behind all that pass.
pub filter-gains-last : (p q : ℕ → Bool) (n : ℕ) (xs : List ℕ) → Rises xs → member n xs ≡ true → p n ≡ false
    → q n ≡ true
    → ((x : ℕ) → member x xs ≡ true → x ≢ n → q x ≡ p x) → ((x : ℕ) → member x xs ≡ true → p x ≡ true → x < n)
    → filter q xs ≡ filter p xs ++ n ∷ []
filter-gains-last p q n [] r m pn qn same old = grind arith
filter-gains-last p q n (x ∷ xs) r m pn qn same old =
    let cases : (x ≡ n) ⊎ (x ≢ n) = cases_eq x n in
    elim cases [
      | inl here ↦
          let no : p x ≡ false = grind arith in
          let now : q x ≡ true = grind arith in
          let none_p : filter p xs ≡ [] =
          filter-none p xs (λ y m.
          let above : x < y = Each-at (λ z. x < z) xs r.0 y m in
          let older = old y (member-behind x y xs m) in
          grind arith) in
          let none_q : filter q xs ≡ [] =
          filter-none q xs (λ y m.
          let above : x < y = Each-at (λ z. x < z) xs r.0 y m in
          let older = old y (member-behind x y xs m) in
          let also : q y ≡ p y = same y (member-behind x y xs m) (omega arith) in
          grind arith) in
          rw (no, now, none_p, none_q, here)
      | inr other ↦
          let there : member n xs ≡ true = grind (arith, nat_tests) in
          let also : q x ≡ p x = same x (grind (arith, nat_tests)) other in
          let rest : filter q xs ≡ filter p xs ++ n ∷ [] =
          filter-gains-last p q n xs r.1 there pn qn (λ y m. same y (member-behind x y xs m))
          (λ y m. old y (member-behind x y xs m)) in
          let which : (p x ≡ true) ⊎ (p x ≡ false) = cases_Bool (p x) in
          elim which [
            | inl kept ↦ rw (also, kept, rest)
            | inr gone ↦ rw (also, gone, rest)
          ]
    ]

-- ---- What stands first in a filter

pub takes : (t : ℕ → Bool) (n : ℕ) (xs : List ℕ) → t n ≡ true → first (filter t (n ∷ xs)) ≡ Some n
takes t n xs k = rw k

pub skips : (t : ℕ → Bool) (n : ℕ) (xs : List ℕ) → t n ≡ false → first (filter t (n ∷ xs)) ≡ first (filter t xs)
skips t n xs k = rw k

pub first-passes : (t : ℕ → Bool) (xs : List ℕ) (w : ℕ) → first (filter t xs) ≡ Some w
    → (t w ≡ true) × (member w xs ≡ true)
first-passes t xs w f = let both = member-filter t w xs (first-member (filter t xs) w f) in (both.1, both.0)

pub first-none : (t : ℕ → Bool) (xs : List ℕ) → first (filter t xs) ≡ None → (x : ℕ) → member x xs ≡ true → t x ≡ false
first-none t [] f x m = grind arith
first-none t (y ∷ xs) f x m =
    let cases : (t y ≡ true) ⊎ (t y ≡ false) = cases_Bool (t y) in
    elim cases [
      | inl kept ↦ grind arith
      | inr gone ↦ grind (arith, nat_tests, first-none t xs)
    ]

-- A wider test that finds one which passes the narrower finds the same.
pub first-narrow : (p q : ℕ → Bool) (xs : List ℕ) (w : ℕ) → ((y : ℕ) → q y ≡ true → p y ≡ true)
    → first (filter p xs) ≡ Some w → q w ≡ true → first (filter q xs) ≡ Some w
first-narrow p q [] w wider f k = grind arith
first-narrow p q (x ∷ xs) w wider f k =
    let cases : (p x ≡ true) ⊎ (p x ≡ false) = cases_Bool (p x) in
    elim cases [
      | inl kept ↦ let here : x ≡ w = grind arith in let also : q x ≡ true = grind arith in rw (also, here)
      | inr gone ↦
          let also : q x ≡ false = grind (arith, wider x) in
          rw also (first-narrow p q xs w wider (grind arith) k)
    ]

pub first-none_narrow : (p q : ℕ → Bool) (xs : List ℕ) → ((y : ℕ) → q y ≡ true → p y ≡ true)
    → first (filter p xs) ≡ None → first (filter q xs) ≡ None
first-none_narrow p q [] wider f = refl
first-none_narrow p q (x ∷ xs) wider f =
    let cases : (p x ≡ true) ⊎ (p x ≡ false) = cases_Bool (p x) in
    elim cases [
      | inl kept ↦ grind arith
      | inr gone ↦
          let also : q x ≡ false = grind (arith, wider x) in
          rw also (first-none_narrow p q xs wider (grind arith))
    ]

-- In a list that falls where a test passes, the greatest that passes is found first.
pub first-greatest : (p t : ℕ → Bool) (n : ℕ) (xs : List ℕ) → FallsOf p xs
    → ((y : ℕ) → t y ≡ true → (p y ≡ true) × (y ≤ n))
    → t n ≡ true → member n xs ≡ true → first (filter t xs) ≡ Some n
first-greatest p t n [] falls below k m = grind arith
first-greatest p t n (x ∷ xs) falls below k m =
    let cases : (t x ≡ true) ⊎ (t x ≡ false) = cases_Bool (t x) in
    elim cases [
      | inl kept ↦
          let here : x ≡ n =
          (
          let known = below x kept in
          let top = below n k in
          let place : (x ≡ n) ⊎ (member n xs ≡ true) = grind (arith, nat_tests) in
          elim place [
            | inl same ↦ same
            | inr behind ↦
                let under : n < x = Each-at (λ y. p y ≡ true → y < x) xs (falls.0 known.0) n behind top.0 in
                absurd (omega (arith, known.1))
          ]
          ) in
          rw (kept, here)
      | inr gone ↦ rw gone (first-greatest p t n xs falls.1 below k (grind (arith, nat_tests)))
    ]

-- ---- Counts of two tests

-- One less passes.
pub how_many-loses : (p q : ℕ → Bool) (n : ℕ) (xs : List ℕ) → Rises xs → member n xs ≡ true → p n ≡ true → q n ≡ false
    → ((x : ℕ) → member x xs ≡ true → x ≢ n → q x ≡ p x) → how_many p xs ≡ how_many q xs + 1
how_many-loses p q n [] r m pn qn same = absurd (grind arith)
how_many-loses p q n (x ∷ xs) r m pn qn same =
    elim (cases_eq x n) [
      | inl here ↦
          let kept : p x ≡ true = subst (λ z. p z ≡ true) (sym here) pn in
          let gone : q x ≡ false = subst (λ z. q z ≡ false) (sym here) qn in
          let others : filter p xs ≡ filter q xs =
          filter-same p q xs (λ y in_y.
          let above : x < y = Each-at (λ z. x < z) xs r.0 y in_y in
          sym (same y (member-behind x y xs in_y) (omega arith))) in
          rw (kept, gone, others) (omega arith)
      | inr other ↦
          let there : member n xs ≡ true = grind (arith, nat_tests) in
          let also : q x ≡ p x = same x (grind (arith, nat_tests)) other in
          let rest : how_many p xs ≡ how_many q xs + 1 =
          how_many-loses p q n xs r.1 there pn qn (λ y in_y. same y (member-behind x y xs in_y)) in
          elim (cases_Bool (p x)) [
            | inl kept ↦ rw (also, kept) (omega arith)
            | inr gone ↦ rw (also, gone) rest
          ]
    ]

-- All but one pass.
pub filter-loses : (p q : ℕ → Bool) (n : ℕ) (xs : List ℕ) → q n ≡ false
    → ((x : ℕ) → member x xs ≡ true → x ≢ n → q x ≡ p x)
    → filter q xs ≡ filter (λ x. not (x == n)) (filter p xs)
filter-loses p q n xs qn same =
    filter-same q (λ x. not (x == n) && p x) xs (λ x m.
    elim (cases_eq x n) [
      | inl here ↦ let gone : q x ≡ false = subst (λ z. q z ≡ false) (sym here) qn in grind (arith, nat_tests)
      | inr other ↦ let also = same x m other in grind (arith, nat_tests)
    ])
    ∙ sym (filter-both (λ x. not (x == n)) p xs)
