-- Which numbers are given, to which harts: the lists of a hart's instructions and of all rise, and hold just those.
use Rattle.std.specs.Prelude.{◌≡◌, ℕ, ◌<◌, ◌≤◌, Bool, true, false, ◌==◌, List, [], ◌∷◌, Option, Some, None, is_some}
use Rattle.std.proofs.Common.{◌∙◌, refl, sym, ap, inl, inr, arith}
use Rattle.std.proofs.{lemmas.Bool.cases_Bool, lemmas.Bool.cases_eq, lemmas.Bool.cases_lt}
use Rattle.std.proofs.{lemmas.Bool.Decides.nat_tests, lemmas.List.append-nil}
use Rattle.events.specs.declared.event.Event.{Event}
use Rattle.events.specs.declared.event.Event.TheVariants.{Fetch, Decode, Rename, Issue, Complete, Drop, Retire, Refetch}
use Rattle.smt_model.specs.{Basics.holds_of, Basics.first, Setup.Setup, Flights.numbers, Flights.added}
use Rattle.smt_model.specs.{Flights.all_numbers}
use Rattle.smt_model.specs.Fates.{stage, fetches, Fetched, fetching, is_of, op_at, op_of_fetched, same_hart, fate}
use Rattle.smt_model.specs.Rules.{refused, is_legal, of_fetched, is_first}
use Rattle.smt_model.proofs.Lists.{member, member-append, Rises, Rises-push}
use Rattle.smt_model.proofs.Fates.Moves.{moves, fetch_number, fetch_was, same_number-is}
use Rattle.smt_model.proofs.Fates.Sound.{sound, moved}

-- ---- An instruction's hart

at_hart_of : (test : ℕ → Bool) (o : Option Fetched) (h : ℕ) → holds_of (λ f. f.hart == h) o ≡ true
    → holds_of (λ f. test f.hart) o ≡ test h
at_hart_of test None h of_h = absurd (grind arith)
at_hart_of test (Some f) h of_h = let same : f.hart ≡ h = grind (arith, nat_tests) in ap test same

-- A test of an instruction's hart.
pub at_hart : (past : List Event) (test : ℕ → Bool) (h s : ℕ) → is_of past h s ≡ true
    → of_fetched past s (λ f. test f.hart) ≡ test h
at_hart past test h s of_h = at_hart_of test (fetching past s) h of_h

-- It is of one hart alone.
pub is_of-is : (past : List Event) (h g s : ℕ) → is_of past h s ≡ true → is_of past g s ≡ (h == g)
is_of-is past h g s of_h = at_hart past (λ x. x == g) h s of_h

pub is_of-one : (past : List Event) (h g s : ℕ) → is_of past h s ≡ true → is_of past g s ≡ true → h ≡ g
is_of-one past h g s of_h of_g = let both = is_of-is past h g s of_h in grind (arith, nat_tests)

pub same_hart-at : (past : List Event) (h s t : ℕ) → is_of past h s ≡ true → same_hart past s t ≡ is_of past h t
unfolding same_hart
same_hart-at past h s t of_h = at_hart past (λ x. is_of past x t) h s of_h

-- What holds of what was fetched was fetched by a hart.
pub record IsFetched (past : List Event) (s : ℕ) : Type 0 where
  pub fetch : Fetched
  pub fetched : fetching past s ≡ Some fetch
  pub of_hart : is_of past fetch.hart s ≡ true

is_fetched_of : (past : List Event) (s : ℕ) (o : Option Fetched) → fetching past s ≡ o → is_some o ≡ true
    → IsFetched past s
is_fetched_of past s None at some = absurd (grind arith)
is_fetched_of past s (Some f) at some = record { fetch = f; fetched = at; of_hart = rw at (grind (arith, nat_tests)) }

pub is_fetched : (past : List Event) (s : ℕ) → is_some (fetching past s) ≡ true → IsFetched past s
is_fetched past s some = is_fetched_of past s (fetching past s) refl some

tested_some_of : (test : Fetched → Bool) (o : Option Fetched) → holds_of test o ≡ true → is_some o ≡ true
tested_some_of test None holds = absurd (grind arith)
tested_some_of test (Some f) holds = refl

-- A test that holds of what was fetched.
pub tested : (past : List Event) (s : ℕ) (test : Fetched → Bool) → of_fetched past s test ≡ true → IsFetched past s
tested past s test holds = is_fetched past s (tested_some_of test (fetching past s) holds)

-- The instruction of an allowed event is the first in a list of its hart's.
pub first_of_hart : (past : List Event) (place : ℕ → List ℕ) (h s : ℕ) → is_of past h s ≡ true
    → of_fetched past s (λ f. is_first s (place f.hart)) ≡ true → first (place h) ≡ Some s
first_of_hart past place h s of_h holds =
    let here : is_first s (place h) ≡ true = sym (at_hart past (λ g. is_first s (place g)) h s of_h) ∙ holds in
    same_number-is (first (place h)) (Some s) here

-- ---- Which numbers are given

pub fetching-none : (setup : Setup) (past : List Event) → is_legal setup past → (s : ℕ) → fetches past ≤ s
    → fetching past s ≡ None
fetching-none setup [] legal s above = refl
fetching-none setup (Fetch actor hart seq pc word predicted ∷ past) legal s above =
    let given = fetch_number setup past actor hart seq pc word predicted legal.0 in
    let other : (seq == s) ≡ false = grind (arith, nat_tests) in
    rw other (fetching-none setup past legal.1 s (omega arith))
fetching-none setup (Decode actor seq ∷ past) legal s above = fetching-none setup past legal.1 s above
fetching-none setup (Rename actor seq phys ∷ past) legal s above = fetching-none setup past legal.1 s above
fetching-none setup (Issue actor seq ∷ past) legal s above = fetching-none setup past legal.1 s above
fetching-none setup (Complete actor seq outcome ∷ past) legal s above = fetching-none setup past legal.1 s above
fetching-none setup (Drop actor seq ∷ past) legal s above = fetching-none setup past legal.1 s above
fetching-none setup (Retire actor seq effect ∷ past) legal s above = fetching-none setup past legal.1 s above
fetching-none setup (Refetch actor seq ∷ past) legal s above = fetching-none setup past legal.1 s above

pub fetching-some : (setup : Setup) (past : List Event) → is_legal setup past → (s : ℕ) → s < fetches past
    → is_some (fetching past s) ≡ true
fetching-some setup [] legal s under = absurd (omega arith)
fetching-some setup (Fetch actor hart seq pc word predicted ∷ past) legal s under =
    let given = fetch_number setup past actor hart seq pc word predicted legal.0 in
    grind (arith, nat_tests, fetching-some setup past legal.1 s)
fetching-some setup (Decode actor seq ∷ past) legal s under = fetching-some setup past legal.1 s under
fetching-some setup (Rename actor seq phys ∷ past) legal s under = fetching-some setup past legal.1 s under
fetching-some setup (Issue actor seq ∷ past) legal s under = fetching-some setup past legal.1 s under
fetching-some setup (Complete actor seq outcome ∷ past) legal s under = fetching-some setup past legal.1 s under
fetching-some setup (Drop actor seq ∷ past) legal s under = fetching-some setup past legal.1 s under
fetching-some setup (Retire actor seq effect ∷ past) legal s under = fetching-some setup past legal.1 s under
fetching-some setup (Refetch actor seq ∷ past) legal s under = fetching-some setup past legal.1 s under

pub is_of-below : (setup : Setup) (past : List Event) → is_legal setup past → (h s : ℕ) → is_of past h s ≡ true
    → s < fetches past
is_of-below setup past legal h s of_h =
    elim (cases_lt s (fetches past)) [
      | inl under ↦ under
      | inr above ↦
          let none = fetching-none setup past legal s above in
          let not_of : is_of past h s ≡ false = rw none refl in
          absurd (grind arith)
    ]

-- What is known of fates: below the count all are known, from it on none.
pub known_below : (setup : Setup) (past : List Event) → is_legal setup past → (s : ℕ) → 1 ≤ stage (fate past s)
    → s < fetches past
known_below setup past legal s known =
    elim (cases_lt s (fetches past)) [
      | inl under ↦ under
      | inr above ↦ let none = (sound setup past legal).fresh s above in absurd (omega arith)
    ]

pub known_on : (a b : ℕ) → moves a b ≡ true → 1 ≤ a → 1 ≤ b
known_on a b move was = grind (arith, nat_tests)

pub known-kept : (setup : Setup) (past : List Event) → is_legal setup past → (e : Event)
    → refused setup past e ≡ None → (s : ℕ)
    → 1 ≤ stage (fate past s) → 1 ≤ stage (fate (e ∷ past) s)
known-kept setup past legal e ok s was =
    known_on (stage (fate past s)) (stage (fate (e ∷ past) s)) (moved setup past legal e ok s) was

known-Fetch : (setup : Setup) (past : List Event) → is_legal setup past
    → (actor hart seq pc : ℕ) (word : Option ℕ) (predicted : ℕ)
    → refused setup past (Fetch actor hart seq pc word predicted) ≡ None
    → 1 ≤ stage (fate (Fetch actor hart seq pc word predicted ∷ past) seq)
known-Fetch setup past legal actor hart seq pc word predicted ok =
    let was = fetch_was setup past (sound setup past legal) actor hart seq pc word predicted ok in
    grind (arith, nat_tests, was)

pub below_known : (setup : Setup) (past : List Event) → is_legal setup past → (s : ℕ) → s < fetches past
    → 1 ≤ stage (fate past s)
below_known setup [] legal s under = absurd (omega arith)
below_known setup (Fetch actor hart seq pc word predicted ∷ past) legal s under =
    let given = fetch_number setup past actor hart seq pc word predicted legal.0 in
    elim (cases_eq s seq) [
      | inl here ↦
          rw here (known-Fetch setup past legal.1 actor hart seq pc word predicted legal.0)
      | inr other ↦
          known-kept setup past legal.1 (Fetch actor hart seq pc word predicted) legal.0 s
          (below_known setup past legal.1 s (omega arith))
    ]
below_known setup (Decode actor seq ∷ past) legal s under =
    known-kept setup past legal.1 (Decode actor seq) legal.0 s (below_known setup past legal.1 s under)
below_known setup (Rename actor seq phys ∷ past) legal s under =
    known-kept setup past legal.1 (Rename actor seq phys) legal.0 s (below_known setup past legal.1 s under)
below_known setup (Issue actor seq ∷ past) legal s under =
    known-kept setup past legal.1 (Issue actor seq) legal.0 s (below_known setup past legal.1 s under)
below_known setup (Complete actor seq outcome ∷ past) legal s under =
    known-kept setup past legal.1 (Complete actor seq outcome) legal.0 s (below_known setup past legal.1 s under)
below_known setup (Drop actor seq ∷ past) legal s under =
    known-kept setup past legal.1 (Drop actor seq) legal.0 s (below_known setup past legal.1 s under)
below_known setup (Retire actor seq effect ∷ past) legal s under =
    known-kept setup past legal.1 (Retire actor seq effect) legal.0 s (below_known setup past legal.1 s under)
below_known setup (Refetch actor seq ∷ past) legal s under =
    known-kept setup past legal.1 (Refetch actor seq) legal.0 s (below_known setup past legal.1 s under)

pub known : (setup : Setup) (past : List Event) → is_legal setup past → (h s : ℕ) → is_of past h s ≡ true
    → 1 ≤ stage (fate past s)
known setup past legal h s of_h = below_known setup past legal s (is_of-below setup past legal h s of_h)

pub known_fetched : (setup : Setup) (past : List Event) → is_legal setup past → (s : ℕ) → 1 ≤ stage (fate past s)
    → IsFetched past s
known_fetched setup past legal s is_known =
    is_fetched past s (fetching-some setup past legal s (known_below setup past legal s is_known))

-- ---- What was fetched stays

pub fetching-kept : (setup : Setup) (past : List Event) → is_legal setup past → (e : Event)
    → refused setup past e ≡ None → (s : ℕ)
    → s < fetches past → fetching (e ∷ past) s ≡ fetching past s
fetching-kept setup past legal (Fetch actor hart seq pc word predicted) ok s under =
    let given = fetch_number setup past actor hart seq pc word predicted ok in
    let other : (seq == s) ≡ false = grind (arith, nat_tests) in
    rw other refl
fetching-kept setup past legal (Decode actor seq) ok s under = refl
fetching-kept setup past legal (Rename actor seq phys) ok s under = refl
fetching-kept setup past legal (Issue actor seq) ok s under = refl
fetching-kept setup past legal (Complete actor seq outcome) ok s under = refl
fetching-kept setup past legal (Drop actor seq) ok s under = refl
fetching-kept setup past legal (Retire actor seq effect) ok s under = refl
fetching-kept setup past legal (Refetch actor seq) ok s under = refl

pub is_of-kept : (setup : Setup) (past : List Event) → is_legal setup past → (e : Event)
    → refused setup past e ≡ None → (h s : ℕ)
    → s < fetches past → is_of (e ∷ past) h s ≡ is_of past h s
is_of-kept setup past legal e ok h s under =
    ap (λ o. holds_of (λ f. f.hart == h) o) (fetching-kept setup past legal e ok s under)

pub op_at-kept : (setup : Setup) (past : List Event) → is_legal setup past → (e : Event)
    → refused setup past e ≡ None → (s : ℕ)
    → s < fetches past → op_at (e ∷ past) s ≡ op_at past s
op_at-kept setup past legal e ok s under = ap op_of_fetched (fetching-kept setup past legal e ok s under)

-- ---- The lists

pub numbers-of : (setup : Setup) (past : List Event) → is_legal setup past → (h s : ℕ)
    → member s (numbers past h) ≡ true → is_of past h s ≡ true
numbers-of setup [] legal h s m = absurd (grind arith)
numbers-of setup (Fetch actor hart seq pc word predicted ∷ past) legal h s m =
    let given = fetch_number setup past actor hart seq pc word predicted legal.0 in
    let parts = member-append s (numbers past h) (added (Fetch actor hart seq pc word predicted) h) in
    let before = numbers-of setup past legal.1 h s in
    let under = is_of-below setup past legal.1 h s in
    grind (arith, nat_tests, parts, before, under)
numbers-of setup (Decode actor seq ∷ past) legal h s m = numbers-of setup past legal.1 h s (rw append-nil at m)
numbers-of setup (Rename actor seq phys ∷ past) legal h s m = numbers-of setup past legal.1 h s (rw append-nil at m)
numbers-of setup (Issue actor seq ∷ past) legal h s m = numbers-of setup past legal.1 h s (rw append-nil at m)
numbers-of setup (Complete actor seq outcome ∷ past) legal h s m =
    numbers-of setup past legal.1 h s (rw append-nil at m)
numbers-of setup (Drop actor seq ∷ past) legal h s m = numbers-of setup past legal.1 h s (rw append-nil at m)
numbers-of setup (Retire actor seq effect ∷ past) legal h s m = numbers-of setup past legal.1 h s (rw append-nil at m)
numbers-of setup (Refetch actor seq ∷ past) legal h s m = numbers-of setup past legal.1 h s (rw append-nil at m)

pub numbers-member : (setup : Setup) (past : List Event) → is_legal setup past → (h s : ℕ) → is_of past h s ≡ true
    → member s (numbers past h) ≡ true
numbers-member setup [] legal h s of_h = absurd (grind arith)
numbers-member setup (Fetch actor hart seq pc word predicted ∷ past) legal h s of_h =
    let given = fetch_number setup past actor hart seq pc word predicted legal.0 in
    let parts = member-append s (numbers past h) (added (Fetch actor hart seq pc word predicted) h) in
    let before = numbers-member setup past legal.1 h s in
    grind (arith, nat_tests, parts, before)
numbers-member setup (Decode actor seq ∷ past) legal h s of_h =
    rw append-nil (numbers-member setup past legal.1 h s of_h)
numbers-member setup (Rename actor seq phys ∷ past) legal h s of_h =
    rw append-nil (numbers-member setup past legal.1 h s of_h)
numbers-member setup (Issue actor seq ∷ past) legal h s of_h =
    rw append-nil (numbers-member setup past legal.1 h s of_h)
numbers-member setup (Complete actor seq outcome ∷ past) legal h s of_h =
    rw append-nil (numbers-member setup past legal.1 h s of_h)
numbers-member setup (Drop actor seq ∷ past) legal h s of_h = rw append-nil (numbers-member setup past legal.1 h s of_h)
numbers-member setup (Retire actor seq effect ∷ past) legal h s of_h =
    rw append-nil (numbers-member setup past legal.1 h s of_h)
numbers-member setup (Refetch actor seq ∷ past) legal h s of_h = rw append-nil (numbers-member setup past legal.1 h s of_h)

pub numbers-rise : (setup : Setup) (past : List Event) → is_legal setup past → (h : ℕ) → Rises (numbers past h)
numbers-rise setup [] legal h = tt
numbers-rise setup (Fetch actor hart seq pc word predicted ∷ past) legal h =
    let given = fetch_number setup past actor hart seq pc word predicted legal.0 in
    let rises = numbers-rise setup past legal.1 h in
    elim (cases_Bool (hart == h)) [
      | inl mine ↦
          rw mine (Rises-push (numbers past h) seq rises (λ x m.
          let under = is_of-below setup past legal.1 h x (numbers-of setup past legal.1 h x m) in omega arith))
      | inr other ↦ rw (other, append-nil) rises
    ]
numbers-rise setup (Decode actor seq ∷ past) legal h = rw append-nil (numbers-rise setup past legal.1 h)
numbers-rise setup (Rename actor seq phys ∷ past) legal h = rw append-nil (numbers-rise setup past legal.1 h)
numbers-rise setup (Issue actor seq ∷ past) legal h = rw append-nil (numbers-rise setup past legal.1 h)
numbers-rise setup (Complete actor seq outcome ∷ past) legal h = rw append-nil (numbers-rise setup past legal.1 h)
numbers-rise setup (Drop actor seq ∷ past) legal h = rw append-nil (numbers-rise setup past legal.1 h)
numbers-rise setup (Retire actor seq effect ∷ past) legal h = rw append-nil (numbers-rise setup past legal.1 h)
numbers-rise setup (Refetch actor seq ∷ past) legal h = rw append-nil (numbers-rise setup past legal.1 h)

-- Of all harts together.
pub all_numbers-below : (setup : Setup) (past : List Event) → is_legal setup past → (s : ℕ)
    → member s (all_numbers past) ≡ true → s < fetches past
all_numbers-below setup [] legal s m = absurd (grind arith)
all_numbers-below setup (Fetch actor hart seq pc word predicted ∷ past) legal s m =
    let given = fetch_number setup past actor hart seq pc word predicted legal.0 in
    let parts = member-append s (all_numbers past) (seq ∷ []) in
    let before = all_numbers-below setup past legal.1 s in
    grind (arith, nat_tests, parts, before)
all_numbers-below setup (Decode actor seq ∷ past) legal s m =
    all_numbers-below setup past legal.1 s (rw append-nil at m)
all_numbers-below setup (Rename actor seq phys ∷ past) legal s m =
    all_numbers-below setup past legal.1 s (rw append-nil at m)
all_numbers-below setup (Issue actor seq ∷ past) legal s m = all_numbers-below setup past legal.1 s (rw append-nil at m)
all_numbers-below setup (Complete actor seq outcome ∷ past) legal s m =
    all_numbers-below setup past legal.1 s (rw append-nil at m)
all_numbers-below setup (Drop actor seq ∷ past) legal s m = all_numbers-below setup past legal.1 s (rw append-nil at m)
all_numbers-below setup (Retire actor seq effect ∷ past) legal s m =
    all_numbers-below setup past legal.1 s (rw append-nil at m)
all_numbers-below setup (Refetch actor seq ∷ past) legal s m = all_numbers-below setup past legal.1 s (rw append-nil at m)

pub all_numbers-member : (setup : Setup) (past : List Event) → is_legal setup past → (s : ℕ) → s < fetches past
    → member s (all_numbers past) ≡ true
all_numbers-member setup [] legal s under = absurd (omega arith)
all_numbers-member setup (Fetch actor hart seq pc word predicted ∷ past) legal s under =
    let given = fetch_number setup past actor hart seq pc word predicted legal.0 in
    let parts = member-append s (all_numbers past) (seq ∷ []) in
    let before = all_numbers-member setup past legal.1 s in
    grind (arith, nat_tests, parts, before)
all_numbers-member setup (Decode actor seq ∷ past) legal s under =
    rw append-nil (all_numbers-member setup past legal.1 s under)
all_numbers-member setup (Rename actor seq phys ∷ past) legal s under =
    rw append-nil (all_numbers-member setup past legal.1 s under)
all_numbers-member setup (Issue actor seq ∷ past) legal s under =
    rw append-nil (all_numbers-member setup past legal.1 s under)
all_numbers-member setup (Complete actor seq outcome ∷ past) legal s under =
    rw append-nil (all_numbers-member setup past legal.1 s under)
all_numbers-member setup (Drop actor seq ∷ past) legal s under =
    rw append-nil (all_numbers-member setup past legal.1 s under)
all_numbers-member setup (Retire actor seq effect ∷ past) legal s under =
    rw append-nil (all_numbers-member setup past legal.1 s under)
all_numbers-member setup (Refetch actor seq ∷ past) legal s under =
    rw append-nil (all_numbers-member setup past legal.1 s under)

pub all_numbers-rise : (setup : Setup) (past : List Event) → is_legal setup past → Rises (all_numbers past)
all_numbers-rise setup [] legal = tt
all_numbers-rise setup (Fetch actor hart seq pc word predicted ∷ past) legal =
    let given = fetch_number setup past actor hart seq pc word predicted legal.0 in
    Rises-push (all_numbers past) seq (all_numbers-rise setup past legal.1)
    (λ x m. let under = all_numbers-below setup past legal.1 x m in omega arith)
all_numbers-rise setup (Decode actor seq ∷ past) legal = rw append-nil (all_numbers-rise setup past legal.1)
all_numbers-rise setup (Rename actor seq phys ∷ past) legal = rw append-nil (all_numbers-rise setup past legal.1)
all_numbers-rise setup (Issue actor seq ∷ past) legal = rw append-nil (all_numbers-rise setup past legal.1)
all_numbers-rise setup (Complete actor seq outcome ∷ past) legal = rw append-nil (all_numbers-rise setup past legal.1)
all_numbers-rise setup (Drop actor seq ∷ past) legal = rw append-nil (all_numbers-rise setup past legal.1)
all_numbers-rise setup (Retire actor seq effect ∷ past) legal = rw append-nil (all_numbers-rise setup past legal.1)
all_numbers-rise setup (Refetch actor seq ∷ past) legal = rw append-nil (all_numbers-rise setup past legal.1)
