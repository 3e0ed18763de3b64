-- Tables of numbers: what they have.
use Rattle.std.specs.Prelude.{◌≡◌, ◌⊎◌, ℕ, ◌+◌, ◌-◌, ◌<◌, ◌≤◌, List, [], ◌∷◌, ◌++◌, length, Contains, Option, Some, None, slice_get}
use Rattle.std.proofs.Common.{sym, subst, refl, ap, inl, inr, arith, ◌∙◌, length-append}
use Rattle.std.specs.Option.{option_map}
use Rattle.std.proofs.lemmas.Option.{slice_get_within, same_Some, get_or_from_slice_get}
use Rattle.std.proofs.lemmas.List.Elements.{Contains-push, Contains-append_left}
use Rattle.litmus_tests.specs.declared.{test.LitmusTest.LitmusTest, value.Value.Value}
use Rattle.litmus_runs.specs.declared.{known.Held.Held, access.Access.Access}
use Rattle.litmus_runs.specs.Numbers.{initial_number, word_of}
use Rattle.litmus_runs.specs.AllWays.{HasInitial, IsLastLearnt}

-- Those of the locations so far.
abbrev pub HasSomeInitial : LitmusTest → List Held → ℕ → Type 0
HasSomeInitial test table bound = (location number : ℕ) → location < bound → initial_number test location ≡ Some number
    → Contains table (record { location = location; number = number })

pub initial_more : (test : LitmusTest) (table : List Held) (location number : ℕ)
    → initial_number test location ≡ Some number → HasSomeInitial test table location
    → HasSomeInitial test (table ++ record { location = location; number = number } ∷ []) (location + 1)
initial_more test table location number there before other its below is =
    let cases : (other < location) ⊎ (other ≡ location) = grind arith in
    elim cases [
      | inl earlier ↦ Contains-append_left table (record { location = location; number = number } ∷ []) _
          (before other its earlier is)
      | inr same ↦
          let e : Some its ≡ Some number = sym is ∙ ap (λ (n : ℕ). initial_number test n) same ∙ there in
          let n : its ≡ number = same_Some its number e in
          rw (same, n) (Contains-push table (record { location = location; number = number }))
    ]

pub initial_less : (test : LitmusTest) (table : List Held) (location : ℕ)
    → initial_number test location ≡ None → HasSomeInitial test table location
    → HasSomeInitial test table (location + 1)
initial_less test table location none before other its below is =
    let cases : (other < location) ⊎ (other ≡ location) = grind arith in
    elim cases [
      | inl earlier ↦ before other its earlier is
      | inr same ↦
          let e : Some its ≡ None = sym is ∙ ap (λ (n : ℕ). initial_number test n) same ∙ none in
          absurd (grind (arith, e))
    ]

-- A number is there only of a word of the test.
pub some_mapped : (f : Value → ℕ) (o : Option Value) (number : ℕ) → option_map f o ≡ Some number → (value : Value) × (o ≡ Some value)
some_mapped f None number is = absurd (grind (arith, is))
some_mapped f (Some value) number is = (value, refl)

pub initial_all : (test : LitmusTest) (table : List Held) (bound : ℕ) → length test.words.items ≤ bound
    → HasSomeInitial test table bound → HasInitial test table
initial_all test table bound past before location number is =
    let found = some_mapped word_of (slice_get test.words.items location) number is in
    let within : location < length test.words.items = slice_get_within test.words.items location found.0 found.1 in
    before location number (omega (arith, within, past)) is

-- The last of a list.
got_pushed : (before : List Access) (a : Access) → slice_get (before ++ a ∷ []) (length before) ≡ Some a
got_pushed [] a = refl
got_pushed (b ∷ before) a = got_pushed before a

last_is : (xs before : List Access) (a x : Access) → xs ≡ before ++ a ∷ []
    → Some x ≡ slice_get xs (length xs - 1) → x ≡ a
last_is xs before a x is there =
    let long : length (before ++ a ∷ []) ≡ length before + 1 = length-append before (a ∷ []) in
    let place : length xs - 1 ≡ length before = let n = ap (λ (ys : List Access). length ys) is in omega (arith, n, long) in
    let got : slice_get xs (length xs - 1) ≡ slice_get (before ++ a ∷ []) (length before) =
    ap (λ (i : ℕ). slice_get xs i) place ∙ ap (λ (ys : List Access). slice_get ys (length before)) is in
    same_Some x a (there ∙ got ∙ got_pushed before a)

pub got_is_in : {A : Type 0} (xs : List A) (k : ℕ) (x : A) → slice_get xs k ≡ Some x → Contains xs x
got_is_in xs k x there = (k, slice_get_within xs k x there, get_or_from_slice_get xs k x x there)

pub last_learnt : (table : List Held) (accesses : List Access) (x : Access) (number : ℕ)
    → Some x ≡ slice_get accesses (length accesses - 1) → x.writes ≡ Some number
    → Contains table (record { location = x.location; number = number }) → IsLastLearnt table accesses
last_learnt table accesses x number there writes known before access its is wrote =
    let same : x ≡ access = last_is accesses before access x is there in
    let n : number ≡ its = same_Some number its (sym writes ∙ ap (λ (a : Access). a.writes) same ∙ wrote) in
    subst (λ (held : Held). Contains table held)
    (ap (λ (a : Access). record { location = a.location; number = number }) same
    ∙ ap (λ (k : ℕ). record { location = access.location; number = k }) n) known

pub no_write_last : (table : List Held) (accesses : List Access) (x : Access)
    → Some x ≡ slice_get accesses (length accesses - 1) → x.writes ≡ None → IsLastLearnt table accesses
no_write_last table accesses x there none before access its is wrote =
    let same : x ≡ access = last_is accesses before access x is there in
    let e : None ≡ Some its = sym none ∙ ap (λ (a : Access). a.writes) same ∙ wrote in absurd (grind (arith, e))

pub no_last : (table : List Held) (accesses : List Access) → None ≡ slice_get accesses (length accesses - 1)
    → IsLastLearnt table accesses
no_last table accesses none before access its is wrote =
    let long : length (before ++ access ∷ []) ≡ length before + 1 = length-append before (access ∷ []) in
    let n = ap (λ (ys : List Access). length ys) is in
    let place : length accesses - 1 ≡ length before = omega (arith, n, long) in
    let got : slice_get accesses (length accesses - 1) ≡ Some access =
    ap (λ (i : ℕ). slice_get accesses i) place
    ∙ ap (λ (ys : List Access). slice_get ys (length before)) is ∙ got_pushed before access in
    let e : None ≡ Some access = none ∙ got in absurd (grind (arith, e))
