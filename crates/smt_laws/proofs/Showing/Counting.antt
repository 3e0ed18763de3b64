-- Lists and sums of numbers: the only member that passes a test, and what bounds a sum.
use Rattle.std.specs.Prelude.{◌≡◌, ◌≢◌, ℕ, zero, suc, ◌+◌, ◌*◌, ◌<◌, ◌≤◌, Bool, true, false, ◌==◌, if◌then◌else◌, List}
use Rattle.std.specs.Prelude.{[], ◌∷◌, ◌++◌, length}
use Rattle.std.specs.List.{filter}
use Rattle.std.proofs.Common.{◌∙◌, refl, sym, ap, subst, inl, inr, arith}
use Rattle.std.proofs.{lemmas.Bool.cases_Bool, lemmas.Bool.cases_eq, lemmas.Bool.Decides.nat_tests}
use Rattle.smt_model.specs.Basics.{how_many, total, below}
use Rattle.smt_model.proofs.Lists.{member, member-behind, Each-at, Rises, filter-none, filter-gains-last}

-- ---- The only one that passes

pub only : (p : ℕ → Bool) (n : ℕ) (xs : List ℕ) → Rises xs → member n xs ≡ true → p n ≡ true
    → ((x : ℕ) → member x xs ≡ true → x ≢ n → p x ≡ false) → filter p xs ≡ n ∷ []
only p n xs rises inside passes others =
    filter-gains-last (λ x. false) p n xs rises inside refl passes others (λ x m never. absurd (grind arith))
    ∙ ap (λ ys. ys ++ n ∷ []) (filter-none (λ x. false) xs (λ x m. refl))

pub first-inside : (x : ℕ) (xs : List ℕ) → member x (x ∷ xs) ≡ true
first-inside x xs = grind (arith, nat_tests)

-- ---- Lengths

length-push : (xs : List ℕ) (n : ℕ) → length (xs ++ n ∷ []) ≡ suc (length xs)
length-push [] n = refl
length-push (x ∷ xs) n = ap suc (length-push xs n)

pub length-below : (n : ℕ) → length (below n) ≡ n
length-below zero = refl
length-below (suc n) = length-push (below n) n ∙ ap suc (length-below n)

-- ---- Sums

pub total-same : (f g : ℕ → ℕ) (xs : List ℕ) → ((x : ℕ) → member x xs ≡ true → g x ≡ f x) → total g xs ≡ total f xs
total-same f g [] same = refl
total-same f g (x ∷ xs) same =
    let here = same x (first-inside x xs) in
    let rest = total-same f g xs (λ y m. same y (member-behind x y xs m)) in
    omega arith

pub total-bound : (f : ℕ → ℕ) (xs : List ℕ) → ((x : ℕ) → member x xs ≡ true → f x ≤ 1) → total f xs ≤ length xs
total-bound f [] each = omega arith
total-bound f (x ∷ xs) each =
    let here = each x (first-inside x xs) in
    let rest = total-bound f xs (λ y m. each y (member-behind x y xs m)) in
    omega arith

pub total-full : (f : ℕ → ℕ) (xs : List ℕ) → ((x : ℕ) → member x xs ≡ true → 1 ≤ f x) → length xs ≤ total f xs
total-full f [] each = omega arith
total-full f (x ∷ xs) each =
    let here = each x (first-inside x xs) in
    let rest = total-full f xs (λ y m. each y (member-behind x y xs m)) in
    omega arith

-- Where none counts more, the sum is no more; where one counts less, it is less.
pub total-most : (f g : ℕ → ℕ) (xs : List ℕ) → ((x : ℕ) → member x xs ≡ true → g x ≤ f x) → total g xs ≤ total f xs
total-most f g [] most = omega arith
total-most f g (x ∷ xs) most =
    let here = most x (first-inside x xs) in
    let rest = total-most f g xs (λ y m. most y (member-behind x y xs m)) in
    omega arith

pub total-fewer : (f g : ℕ → ℕ) (n : ℕ) (xs : List ℕ) → member n xs ≡ true → g n < f n
    → ((x : ℕ) → member x xs ≡ true → g x ≤ f x) → total g xs < total f xs
total-fewer f g n [] inside fewer most = absurd (grind arith)
total-fewer f g n (x ∷ xs) inside fewer most =
    let here = most x (first-inside x xs) in
    elim (cases_eq x n) [
      | inl same ↦
          let less : g x < f x = subst (λ z. g z < f z) (sym same) fewer in
          let rest = total-most f g xs (λ y m. most y (member-behind x y xs m)) in
          omega arith
      | inr other ↦
          let behind : member n xs ≡ true = grind (arith, nat_tests) in
          let rest = total-fewer f g n xs behind fewer (λ y m. most y (member-behind x y xs m)) in
          omega arith
    ]

-- ---- Sums over two lists

pub total-none : (xs : List ℕ) → total (λ x. 0) xs ≡ 0
total-none [] = refl
total-none (x ∷ xs) = let rest = total-none xs in omega arith

pub total-plus : (f g : ℕ → ℕ) (xs : List ℕ) → total (λ x. f x + g x) xs ≡ total f xs + total g xs
total-plus f g [] = refl
total-plus f g (x ∷ xs) = let rest = total-plus f g xs in omega arith

abbrev pub one_if : Bool → ℕ
one_if b = if b then 1 else 0

how_many-cons : (test : ℕ → Bool) (x : ℕ) (xs : List ℕ) → how_many test (x ∷ xs) ≡ one_if (test x) + how_many test xs
how_many-cons test x xs = elim (cases_Bool (test x)) [
  | inl kept ↦ rw kept (omega arith)
  | inr gone ↦ rw gone (omega arith)
]

-- A number stands once at most in a list that rises.
pub found-once : (v : ℕ) (ps : List ℕ) → Rises ps → total (λ p. one_if (v == p)) ps ≤ 1
found-once v [] rises = omega arith
found-once v (p ∷ ps) rises =
    elim (cases_eq v p) [
      | inl here ↦
          let rest : total (λ q. one_if (v == q)) ps ≡ total (λ q. 0) ps =
          total-same (λ q. 0) (λ q. one_if (v == q)) ps (λ q m.
          let above : p < q = Each-at (λ z. p < z) ps rises.0 q m in
          let other : (v == q) ≡ false = grind (arith, nat_tests) in
          rw other refl) in
          let none = total-none ps in
          let same : (v == p) ≡ true = grind (arith, nat_tests) in
          let one : one_if (v == p) ≡ 1 = rw same refl in
          omega arith
      | inr other ↦
          let apart : (v == p) ≡ false = grind (arith, nat_tests) in
          let zero_here : one_if (v == p) ≡ 0 = rw apart refl in
          let rest = found-once v ps rises.1 in
          omega arith
    ]

-- However many members have each p as their number, all p together have no more than there are members.
pub images-bound : (f : ℕ → ℕ) (xs ps : List ℕ) → Rises ps → total (λ p. how_many (λ x. f x == p) xs) ps ≤ length xs
images-bound f [] ps rises = let none = total-none ps in omega arith
images-bound f (x ∷ xs) ps rises =
    let rest = images-bound f xs ps rises in
    let here = found-once (f x) ps rises in
    let split : total (λ p. how_many (λ y. f y == p) (x ∷ xs)) ps
    ≡ total (λ p. one_if (f x == p) + how_many (λ y. f y == p) xs) ps =
    total-same (λ p. one_if (f x == p) + how_many (λ y. f y == p) xs) (λ p. how_many (λ y. f y == p) (x ∷ xs)) ps
    (λ p m. how_many-cons (λ y. f y == p) x xs) in
    let sums = total-plus (λ p. one_if (f x == p)) (λ p. how_many (λ y. f y == p) xs) ps in
    omega arith

-- Where each count of a family is at most so many, all of them together are at most so many each.
pub sums-bound : (count : ℕ → ℕ → ℕ) (most : ℕ) (hs ps : List ℕ) → ((h : ℕ) → total (count h) ps ≤ most)
    → total (λ p. total (λ h. count h p) hs) ps ≤ most * length hs
sums-bound count most [] ps each = let none = total-none ps in omega arith
sums-bound count most (h ∷ hs) ps each =
    let rest = sums-bound count most hs ps each in
    let here = each h in
    let sums = total-plus (count h) (λ p. total (λ g. count g p) hs) ps in
    let grows : most * length (h ∷ hs) ≡ most + most * length hs = grind arith in
    omega arith
