-- Whose turn comes: a hart that goes, and none only where none goes.
use Rattle.std.proofs.Common.{◌≡◌, ℕ, ◌+◌, ◌*◌, ◌/◌, ◌^◌, ◌<◌, ◌≤◌, Bool, true, false, zero, suc, List, [], ◌∷◌, ◌++◌}
use Rattle.std.proofs.Common.{Option, Some, None, length, refl, ap, sym, subst, ◌∙◌, inl, inr, arith, lit<, add-one, length-append}
use Rattle.std.proofs.Math.Nat.{div-lt_iff_lt-mul, mul-lt-mul_of_pos_right, mod-lt}
use Rattle.std.specs.Prelude.{slice_get, filter, find, option_map, nat_lt, if◌then◌else◌}
use Rattle.std.proofs.{lemmas.Bool.cases_Bool, lemmas.List.Elements.filter-append, lemmas.List.length_push}
use Rattle.smt_model.specs.{Basics.below, Setup.Setup, Plain.Plain, Plain.is_going_status}
use Rattle.rounds.specs.Turns.{Turn, going, next_number, number_for, or_else, drawn, chosen}

-- ---- A hart that goes

-- It is so of each of these.
abbrev AreAll : (ℕ → Type 0) → List ℕ → Type 0
AreAll P [] = Unit {0}
AreAll P (x ∷ xs) = P x × AreAll P xs

all-append : (P : ℕ → Type 0) (xs ys : List ℕ) → AreAll P xs → AreAll P ys → AreAll P (xs ++ ys)
all-append P [] ys first next = next
all-append P (x ∷ xs) ys first next = (first.0, all-append P xs ys first.1 next)

all-weaker : (P Q : ℕ → Type 0) → ((x : ℕ) → P x → Q x) → (xs : List ℕ) → AreAll P xs → AreAll Q xs
all-weaker P Q less [] all = tt
all-weaker P Q less (x ∷ xs) all = (less x all.0, all-weaker P Q less xs all.1)

all-slice_get : (P : ℕ → Type 0) (xs : List ℕ) (i x : ℕ) → AreAll P xs → slice_get xs i ≡ Some x → P x
all-slice_get P [] i x all is = absurd (cc)
all-slice_get P (y ∷ xs) zero x all is = let same : y ≡ x = cc in subst P same all.0
all-slice_get P (y ∷ xs) (suc i) x all is = all-slice_get P xs i x all.1 is

all-find : (P : ℕ → Type 0) (test : ℕ → Bool) (xs : List ℕ) (x : ℕ) → AreAll P xs → find test xs ≡ Some x → P x
all-find P test [] x all is = absurd (cc)
all-find P test (y ∷ xs) x all is =
    elim (cases_Bool (test y)) [
      | inl passes ↦ let found : Some y ≡ Some x = rw passes at is in let same : y ≡ x = cc in subst P same all.0
      | inr fails ↦ let later : find test xs ≡ Some x = rw fails at is in all-find P test xs x all.1 later
    ]

-- The harts below n that pass.
all_passing : (test : ℕ → Bool) (n : ℕ) → AreAll (λ h. (h < n) × (test h ≡ true)) (filter test (below n))
all_passing test zero = tt
all_passing test (suc n) =
    let P : ℕ → Type 0 = λ h. (h < suc n) × (test h ≡ true) in
    let before = all-weaker (λ h. (h < n) × (test h ≡ true)) P (λ h is. (omega (arith, is.0), is.1))
    (filter test (below n)) (all_passing test n) in
    let last : AreAll P (filter test (n ∷ [])) = elim (cases_Bool (test n)) [
      | inl passes ↦ rw passes ((omega arith, passes), tt)
      | inr fails ↦ rw fails tt
    ] in
    rw filter-append (all-append P (filter test (below n)) (filter test (n ∷ [])) before last)

or_else_has : (P : ℕ → Type 0) (one other : Option ℕ) (x : ℕ) → ((y : ℕ) → one ≡ Some y → P y)
    → ((y : ℕ) → other ≡ Some y → P y) → or_else one other ≡ Some x → P x
or_else_has P (Some y) other x first next is = first x is
or_else_has P None other x first next is = next x is

chosen_has : (P : ℕ → Type 0) (number last : Option ℕ) (xs : List ℕ) (x : ℕ) → AreAll P xs
    → chosen number last xs ≡ Some x → P x
chosen_has P None None xs x all is = all-slice_get P xs 0 x all is
chosen_has P None (Some h) xs x all is =
    or_else_has P (find (λ y. nat_lt h y) xs) (slice_get xs 0) x (λ y. all-find P (λ y. nat_lt h y) xs y all)
    (λ y. all-slice_get P xs 0 y all) is
chosen_has P (Some number) last xs x all is =
    all-slice_get P xs (number / 2 ^ 32 * length xs / 2 ^ 32) x all is

-- Whose turn comes is there, and goes.
pub chosen_goes : (setup : Setup) (s : Plain) (number last : Option ℕ) (hart : ℕ)
    → chosen number last (going setup s) ≡ Some hart
    → (hart < setup.harts) × (is_going_status (s.statuses hart) ≡ true)
chosen_goes setup s number last hart is =
    chosen_has (λ h. (h < setup.harts) × (is_going_status (s.statuses h) ≡ true)) number last (going setup s) hart
    (all_passing (λ h. is_going_status (s.statuses h)) setup.harts) is

-- ---- The harts that go, one after another

pub going_more : (goes : ℕ → Bool) (n : ℕ) (before after : List ℕ) (one : Bool)
    → before ≡ filter goes (below n) → one ≡ goes n → after ≡ before ++ (if one then n ∷ [] else [])
    → after ≡ filter goes (below (n + 1))
going_more goes n before after one is same more =
    more ∙ (ap (λ xs. xs ++ (if one then n ∷ [] else [])) is
    ∙ (ap (λ b. filter goes (below n) ++ (if b then n ∷ [] else [])) same
    ∙ (sym (filter-append goes (below n) (n ∷ [])) ∙ ap (λ k. filter goes (below k)) (sym (add-one n)))))

pub one_more : (n : ℕ) (before after : List ℕ) (one : Bool) → length before ≤ n
    → after ≡ before ++ (if one then n ∷ [] else []) → length after ≤ n + 1
one_more n before after true few more = omega (arith, ap length more, length_push before n)
one_more n before after false few more = omega (arith, ap length more, length-append before [])

-- ---- No hart

nothing_first : (xs : List ℕ) → slice_get xs 0 ≡ None → xs ≡ []
nothing_first [] none = refl
nothing_first (x ∷ xs) none = absurd (cc)

no_other : (one other : Option ℕ) → or_else one other ≡ None → other ≡ None
no_other None other none = none
no_other (Some x) other none = absurd (cc)

nothing_at : (xs : List ℕ) (i : ℕ) → i < length xs → slice_get xs i ≡ None → ⊥
nothing_at [] i inside none = omega arith
nothing_at (x ∷ xs) zero inside none = cc
nothing_at (x ∷ xs) (suc i) inside none = nothing_at xs i (omega arith) none

-- A number of 64 bits draws one of the harts.
draws_inside : (number n : ℕ) → number < 2 ^ 64 → 0 < n → number / 2 ^ 32 * n / 2 ^ 32 < n
draws_inside number n small some =
    let whole : number < 2 ^ 32 * 2 ^ 32 = omega arith in
    let high : number / 2 ^ 32 < 2 ^ 32 = (div-lt_iff_lt-mul (lit< tt)).1 whole in
    let product : number / 2 ^ 32 * n < 2 ^ 32 * n = mul-lt-mul_of_pos_right high some in
    let turned : number / 2 ^ 32 * n < n * 2 ^ 32 = omega arith in
    (div-lt_iff_lt-mul (lit< tt)).1 turned

nothing_drawn : (number : ℕ) (xs : List ℕ) → number < 2 ^ 64 → drawn number xs ≡ None → xs ≡ []
nothing_drawn number [] small none = refl
nothing_drawn number (x ∷ xs) small none =
    absurd (nothing_at (x ∷ xs) (number / 2 ^ 32 * length (x ∷ xs) / 2 ^ 32)
    (draws_inside number (length (x ∷ xs)) small (omega arith)) none)

-- Each number of the generator has 64 bits.
mapped_small : (o : Option ℕ) (x : ℕ) → option_map next_number o ≡ Some x → x < 2 ^ 64
mapped_small None x is = absurd (cc)
mapped_small (Some y) x is =
    let same : next_number y ≡ x = cc in
    subst (λ n. n < 2 ^ 64) same (mod-lt (6364136223846793005 * y + 1442695040888963407) (lit< tt))

number_small : (seed : Option ℕ) (turns : List Turn) (x : ℕ) → number_for seed turns ≡ Some x → x < 2 ^ 64
number_small seed [] x is = mapped_small seed x is
number_small seed (turn ∷ earlier) x is = mapped_small (number_for seed earlier) x is

none_chosen : (number last : Option ℕ) (xs : List ℕ) → ((x : ℕ) → number ≡ Some x → x < 2 ^ 64)
    → chosen number last xs ≡ None → xs ≡ []
none_chosen None None xs small none = nothing_first xs none
none_chosen None (Some h) xs small none =
    nothing_first xs (no_other (find (λ y. nat_lt h y) xs) (slice_get xs 0) none)
none_chosen (Some x) last xs small none = nothing_drawn x xs (small x refl) none

-- No turn comes only where no hart goes.
pub none_goes : (seed : Option ℕ) (turns : List Turn) (last : Option ℕ) (xs : List ℕ)
    → chosen (number_for seed turns) last xs ≡ None → xs ≡ []
none_goes seed turns last xs none = none_chosen (number_for seed turns) last xs (number_small seed turns) none
