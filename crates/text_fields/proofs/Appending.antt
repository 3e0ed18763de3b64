-- One write after another, and the texts that a loop over a list writes.
use Rattle.std.proofs.Common.{◌≡◌, ℕ, zero, suc, ◌+◌, ◌<◌, List, [], ◌∷◌, ◌++◌, length, take, get_or, flat_map, Some, None}
use Rattle.std.proofs.Common.{Option, refl, sym, ap, subst, ◌∙◌, append_assoc, append-nil, arith, slice_get}
use Rattle.std.specs.Io.KnownBytes.{Appends}
use Rattle.std.proofs.lemmas.List.{take_more, flat_map_more}
use Rattle.text_fields.specs.Each.{each_from}

-- Two writes, one after the other, are a write of both texts.
pub appends_more : (old mid new : Option (List ℕ)) (a b : List ℕ) → Appends old mid a → Appends mid new b
    → Appends old new (a ++ b)
appends_more None mid new a b first next = tt
appends_more (Some xs) None new a b first next = absurd first
appends_more (Some xs) (Some ys) None a b first next = absurd next
appends_more (Some xs) (Some ys) (Some zs) a b first next = next ∙ ap (λ t. t ++ b) first ∙ append_assoc xs a b

-- Two texts appended to a line, one after the other, are both appended to it.
pub appended_twice : (old mid new a b : List ℕ) → mid ≡ old ++ a → new ≡ mid ++ b → new ≡ old ++ (a ++ b)
appended_twice old mid new a b first next = next ∙ ap (λ t. t ++ b) first ∙ append_assoc old a b

each_from_suc : {A : Type 0} (text : ℕ → A → List ℕ) (first : ℕ) (xs : List A) (i : ℕ) (d : A) → i < length xs
    → each_from text first (take (suc i) xs) ≡ each_from text first (take i xs) ++ text (first + i) (get_or xs i d)
each_from_suc text first [] i d inside = absurd (omega arith)
each_from_suc text first (x ∷ xs) zero d inside =
    let same : first + 0 ≡ first = omega arith in append-nil (text first x) ∙ ap (λ k. text k x) (sym same)
each_from_suc text first (x ∷ xs) (suc i) d inside =
    let same : first + 1 + i ≡ first + suc i = omega arith in
    ap (λ t. text first x ++ t) (each_from_suc text (first + 1) xs i d (omega arith))
    ∙ sym (append_assoc (text first x) (each_from text (first + 1) (take i xs)) (text (first + 1 + i) (get_or xs i d)))
    ∙ ap (λ k. (text first x ++ each_from text (first + 1) (take i xs)) ++ text k (get_or xs i d)) same

-- a turn of a loop over a list
pub each_step : {A : Type 0} (text : ℕ → A → List ℕ) (old mid new : Option (List ℕ)) (xs : List A) (i : ℕ) (d : A)
    → i < length xs → Appends old mid (each_from text 0 (take i xs)) → Appends mid new (text i (get_or xs i d))
    → Appends old new (each_from text 0 (take (i + 1) xs))
each_step text old mid new xs i d inside before next =
    let on : i + 1 ≡ suc i = omega arith in
    let same : 0 + i ≡ i = omega arith in
    let more : each_from text 0 (take (i + 1) xs) ≡ each_from text 0 (take i xs) ++ text i (get_or xs i d) =
    ap (λ n. each_from text 0 (take n xs)) on ∙ each_from_suc text 0 xs i d inside
    ∙ ap (λ k. each_from text 0 (take i xs) ++ text k (get_or xs i d)) same in
    subst (λ t. Appends old new t) (sym more) (appends_more old mid new _ _ before next)

-- the member at an index that is inside
pub member : {A : Type 0} (xs : List A) (i : ℕ) → i < length xs → (x : A) × (slice_get xs i ≡ Some x)
    × ((d : A) → get_or xs i d ≡ x)
member [] i inside = absurd (omega arith)
member (x ∷ xs) zero inside = (x, refl, λ d. refl)
member (x ∷ xs) (suc i) inside = member xs i (omega arith)

-- a turn of a loop that asks for the member
pub told_step : {A : Type 0} (text : ℕ → A → List ℕ) (old mid new : Option (List ℕ)) (xs : List A) (i n : ℕ)
    → i < n → n ≡ length xs → Appends old mid (each_from text 0 (take i xs))
    → ((one : A) → slice_get xs i ≡ Some one → Appends mid new (text i one))
    → Appends old new (each_from text 0 (take (i + 1) xs))
told_step {A} text old mid new xs i n below count before next =
    let inside : i < length xs = omega (arith, below, count) in
    let one = member xs i inside in
    each_step text old mid new xs i one.0 inside before
    (subst (λ (t : A). Appends mid new (text i t)) (sym (one.2 one.0)) (next one.0 one.1))

-- a turn of a loop whose texts say no place
pub flat_step : {A : Type 0} (text : A → List ℕ) (old mid new : Option (List ℕ)) (xs : List A) (i : ℕ) (d : A)
    → i < length xs → Appends old mid (flat_map text (take i xs)) → Appends mid new (text (get_or xs i d))
    → Appends old new (flat_map text (take (i + 1) xs))
flat_step text old mid new xs i d inside before next =
    let more : flat_map text (take (i + 1) xs) ≡ flat_map text (take i xs) ++ text (get_or xs i d) =
    ap (flat_map text) (take_more xs i d inside) ∙ sym (flat_map_more text [] (take i xs) (get_or xs i d)) in
    subst (λ t. Appends old new t) (sym more) (appends_more old mid new _ _ before next)
