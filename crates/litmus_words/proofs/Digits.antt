-- Numbers, a digit at a time.
use Rattle.std.proofs.Common.{◌≡◌, ℕ, ◌+◌, ◌*◌, ◌^◌, ◌<◌, ◌≤◌, Bool, true, false, List, [], ◌∷◌, ◌++◌, length, take, drop, get_or}
use Rattle.std.proofs.Common.{All, refl, sym, ap, subst, ◌∙◌, arith}
use Rattle.std.proofs.lemmas.{Bool.true≢false, List.take-append-drop, List.take_all, List.take_more}
use Rattle.litmus_words.specs.Numbers.{number_after, digit_value}

number_more : (base n : ℕ) (xs : List ℕ) (x : ℕ)
    → number_after base n (xs ++ x ∷ []) ≡ number_after base n xs * base + digit_value x
number_more base n [] x = refl
number_more base n (y ∷ ys) x = number_more base (n * base + digit_value y) ys x

-- one digit more
pub one_digit_more : (base number more : ℕ) (xs : List ℕ) (i d : ℕ) → i < length xs
    → number ≡ number_after base 0 (take i xs) → more ≡ number * base + digit_value (get_or xs i d)
    → more ≡ number_after base 0 (take (i + 1) xs)
one_digit_more base number more xs i d inside before is =
    is ∙ ap (λ n. n * base + digit_value (get_or xs i d)) before
    ∙ sym (ap (number_after base 0) (take_more xs i d inside) ∙ number_more base 0 (take i xs) (get_or xs i d))

-- What holds of the elements so far holds of all when they are over.
pub all_digits : (P : ℕ → Type 0) (all : List ℕ) (i : ℕ) → length all ≤ i → All P (take i all) → All P all
all_digits P all i past told = subst (λ (t : List ℕ). All P t) (take_all i all past) told

le_product : (n base : ℕ) → 1 ≤ base → n ≤ n * base
le_product n base some = grind arith

-- digits that follow only add
number_grows : (base n : ℕ) (xs : List ℕ) → 1 ≤ base → n ≤ number_after base n xs
number_grows base n [] some = omega arith
number_grows base n (x ∷ xs) some =
    let more = number_grows base (n * base + digit_value x) xs some in
    let grown = le_product n base some in omega (arith, more, grown)

number_of_both : (base n : ℕ) (xs ys : List ℕ)
    → number_after base n (xs ++ ys) ≡ number_after base (number_after base n xs) ys
number_of_both base n [] ys = refl
number_of_both base n (x ∷ xs) ys = number_of_both base (n * base + digit_value x) xs ys

pub too_large : (base number : ℕ) (xs : List ℕ) (i d : ℕ) → 1 ≤ base → i < length xs
    → number ≡ number_after base 0 (take i xs) → 2 ^ 32 ≤ number * base + digit_value (get_or xs i d)
    → 2 ^ 32 ≤ number_after base 0 xs
too_large base number xs i d some inside before large =
    let here = one_digit_more base number (number * base + digit_value (get_or xs i d)) xs i d inside before refl in
    let both = number_of_both base 0 (take (i + 1) xs) (drop (i + 1) xs) in
    let whole = ap (number_after base 0) (take-append-drop (i + 1) xs) in
    let grown = number_grows base (number_after base 0 (take (i + 1) xs)) (drop (i + 1) xs) some in
    omega (arith, here, both, whole, grown, large)

-- a digit that is none
pub not_all : (test : ℕ → Bool) (xs : List ℕ) (i d : ℕ) → i < length xs → test (get_or xs i d) ≡ false
    → All (λ digit. test digit ≡ true) xs → ⊥
not_all test xs i d inside is all = true≢false (sym (all i d inside) ∙ is)
