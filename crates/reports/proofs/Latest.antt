-- The last member of a list that passes a test, as a loop finds it.
use Rattle.std.specs.Prelude.{◌≡◌, ℕ, ◌+◌, ◌<◌, ◌≤◌, Bool, List, [], ◌∷◌, length, Option, Some, find, reverse}
use Rattle.std.specs.Prelude.{take, if◌then◌else◌}
use Rattle.std.proofs.Common.{get_or, refl, ap, ◌∙◌, inl, inr}
use Rattle.std.proofs.lemmas.{Bool.cases_Bool, List.take_more, List.take_all, List.reverse-append}

pub last_step : {A : Type 0} (test : A → Bool) (xs : List A) (i : ℕ) (d : A) (last : Option A) → i < length xs
    → last ≡ find test (reverse (take i xs))
    → (if test (get_or xs i d) then Some (get_or xs i d) else last) ≡ find test (reverse (take (i + 1) xs))
last_step test xs i d last inside is =
    let next : reverse (take (i + 1) xs) ≡ get_or xs i d ∷ reverse (take i xs) =
    ap reverse (take_more xs i d inside) ∙ reverse-append (take i xs) (get_or xs i d ∷ []) in
    rw (next, is)
    (elim (cases_Bool (test (get_or xs i d))) [ inl here ↦ rw here refl | inr other ↦ rw other refl ])

pub last_whole : {A : Type 0} (test : A → Bool) (xs : List A) (i : ℕ) (last : Option A) → length xs ≤ i
    → last ≡ find test (reverse (take i xs)) → last ≡ find test (reverse xs)
last_whole test xs i last end is = is ∙ ap (λ ys. find test (reverse ys)) (take_all i xs end)
