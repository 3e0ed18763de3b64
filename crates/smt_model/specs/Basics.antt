-- Words on options, lists and tests that the definitions share.
use Rattle.std.specs.Prelude.{ℕ, zero, suc, ◌+◌, Bool, true, false, not, ◌==◌, nat_lt}
use Rattle.std.specs.Prelude.{if◌then◌else◌, List, [], ◌∷◌, ◌++◌, length, filter, Option, Some}
use Rattle.std.specs.Prelude.{None}
pub use Rattle.rv_instr.specs.Kinds.{or_zero}

-- The value is there and passes the test.
abbrev pub holds_of : {A : Type 0} → (A → Bool) → Option A → Bool
holds_of test None = false
holds_of test (Some x) = test x

-- The first of the two that is there.
abbrev pub or_else : {A : Type 0} → Option A → Option A → Option A
or_else None later = later
or_else (Some x) later = Some x

-- Both are none, or both are there and the same.
abbrev pub same_number : Option ℕ → Option ℕ → Bool
same_number None None = true
same_number (Some m) (Some n) = m == n
same_number _ _ = false

abbrev pub same_truth : Bool → Bool → Bool
same_truth a b = if a then b else not b

-- The first member of a list.
abbrev pub first : {A : Type 0} → List A → Option A
first [] = None
first (x ∷ xs) = Some x

-- How many members pass the test.
abbrev pub how_many : {A : Type 0} → (A → Bool) → List A → ℕ
how_many test xs = length (filter test xs)

-- The sum of a number for each member.
abbrev pub total : {A : Type 0} → (A → ℕ) → List A → ℕ
total f [] = 0
total f (x ∷ xs) = f x + total f xs

-- The numbers below n, rising.
abbrev pub below : ℕ → List ℕ
below zero = []
below (suc n) = below n ++ n ∷ []

-- The first member at which f is least.
abbrev pub least_from : (ℕ → ℕ) → ℕ → List ℕ → ℕ
least_from f best [] = best
least_from f best (x ∷ xs) =
    if nat_lt (f x) (f best) then least_from f x xs else least_from f best xs

abbrev pub first_least : (ℕ → ℕ) → List ℕ → Option ℕ
first_least f [] = None
first_least f (x ∷ xs) = Some (least_from f x xs)
