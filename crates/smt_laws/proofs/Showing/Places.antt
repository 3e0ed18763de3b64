-- Where one instruction is alone beyond the decode latches: it stands first where it stands, all other places are
-- empty, and its sources have their numbers.
use Rattle.std.specs.Prelude.{◌≡◌, ℕ, ◌<◌, ◌≤◌, Bool, true, false, ◌==◌, ◌&&◌, List, [], ◌∷◌, Option, Some, None}
use Rattle.std.specs.Prelude.{is_some}
use Rattle.std.specs.List.{filter}
use Rattle.std.proofs.Common.{◌∙◌, refl, sym, ap, subst, inl, inr, arith}
use Rattle.std.proofs.{lemmas.Bool.cases_Bool, lemmas.Bool.Decides.nat_tests}
use Rattle.rv_instr.specs.declared.op.Op.{Op}
use Rattle.events.specs.declared.event.Event.{Event}
use Rattle.smt_model.specs.{Setup.Setup, Kinds.first_source, Kinds.second_source, Flights.numbers, Flights.all_numbers}
use Rattle.smt_model.specs.{Basics.first, Flights.live, Flights.queue, Flights.in_decode, Rules.is_legal}
use Rattle.smt_model.specs.Fates.{Fate, fate, is, is_of, is_live, is_in_flight, stage, op_of_fetched, InDecode, Renamed}
use Rattle.smt_model.specs.Registers.{source, committer, committed, source_register, register_by, first_register, value}
use Rattle.smt_model.specs.Registers.{reading, reads, is_ready}
use Rattle.smt_model.proofs.Lists.{member, member-filter, filter-none, filter-member, first-least, Rises-filter}
use Rattle.smt_model.proofs.Fates.Numbers.{numbers-of, numbers-member, numbers-rise, all_numbers-member}
use Rattle.smt_model.proofs.Fates.Numbers.{all_numbers-rise, known_below, known_fetched, is_of-one}
use Rattle.smt_laws.proofs.{Fates.Choosing.hart_there, Registers.Operands.IsSourceName}
use Rattle.smt_laws.proofs.{Registers.Operands.reading_by-is, Registers.Below.first_source-below}
use Rattle.smt_laws.proofs.Registers.Below.{second_source-below}
use Rattle.smt_laws.proofs.Registers.Sources.{source-is, source-committed, source-none}
use Rattle.smt_laws.proofs.{Sequential.sequential, Paths.least_first}
use Rattle.smt_laws.proofs.Showing.Counting.{only, first-inside}
use Rattle.smt_laws.proofs.Showing.Turns.{is_aside, IsRested, IsAlone}

-- ---- Places beyond the latches

-- No instruction that stands aside passes the test.
abbrev pub FailsAside : (Fate → Bool) → Type 0
FailsAside test = (f : Fate) → is_aside (stage f) ≡ true → test f ≡ false

pub place-empty : (past : List Event) (test : Fate → Bool) → FailsAside test → IsRested past → (xs : List ℕ)
    → filter (λ s. test (fate past s)) xs ≡ []
place-empty past test fails rested xs =
    filter-none (λ s. test (fate past s)) xs (λ s m. fails (fate past s) (rested s))

-- None passes, not even the one.
pub place-none : (past : List Event) (test : Fate → Bool) → FailsAside test → (h n at : ℕ) → IsAlone past h n at
    → test (fate past n) ≡ false → (xs : List ℕ) → filter (λ s. test (fate past s)) xs ≡ []
place-none past test fails h n at alone not_here xs =
    filter-none (λ s. test (fate past s)) xs (λ s m. elim (cases_Bool (s == n)) [
      | inl same ↦
          let here : s ≡ n = grind (arith, nat_tests) in subst (λ z. test (fate past z) ≡ false) (sym here) not_here
      | inr apart ↦ fails (fate past s) (alone.others s (λ same. absurd (grind (arith, nat_tests))))
    ])

pub place-one : (setup : Setup) (past : List Event) → is_legal setup past → (test : Fate → Bool) → FailsAside test
    → (h n at : ℕ) → IsAlone past h n at → test (fate past n) ≡ true
    → filter (λ s. test (fate past s)) (numbers past h) ≡ n ∷ []
place-one setup past legal test fails h n at alone here =
    only (λ s. test (fate past s)) n (numbers past h) (numbers-rise setup past legal h)
    (numbers-member setup past legal h n alone.of_hart) here (λ s m other. fails (fate past s) (alone.others s other))

pub flies_not_aside : FailsAside is_in_flight
flies_not_aside f aside = grind (arith, nat_tests)

pub queue-one : (setup : Setup) (past : List Event) → is_legal setup past → (h n : ℕ) → IsAlone past h n 3
    → queue past ≡ n ∷ []
queue-one setup past legal h n alone =
    let at = alone.stands in
    only (λ s. is (fate past s) Renamed) n (all_numbers past) (all_numbers-rise setup past legal)
    (all_numbers-member setup past legal n (known_below setup past legal n (omega arith))) (grind (arith, nat_tests))
    (λ s m other. let aside = alone.others s other in grind (arith, nat_tests))

-- Of its hart it is the oldest on the way.
pub live-oldest : (setup : Setup) (past : List Event) → is_legal setup past → (h n at : ℕ) → IsAlone past h n at
    → 1 ≤ at → at ≤ 5 → first (live past h) ≡ Some n
live-oldest setup past legal h n at alone low high =
    let here = alone.stands in
    least_first (λ s. is_live (fate past s)) n (numbers past h) (numbers-rise setup past legal h)
    (numbers-member setup past legal h n alone.of_hart) (grind (arith, nat_tests))
    (λ s m under.
    let gone = alone.older s (numbers-of setup past legal h s m) under in
    grind (arith, nat_tests))

-- ---- The latch

pub record IsParked (past : List Event) (h n : ℕ) : Type 0 where
  pub of_hart : is_of past h n ≡ true
  pub waits : is (fate past n) InDecode ≡ true

pub is_parked : (setup : Setup) (past : List Event) → is_legal setup past → (h n : ℕ) (rest : List ℕ)
    → in_decode past h ≡ n ∷ rest → IsParked past h n
is_parked setup past legal h n rest latch =
    let inside : member n (in_decode past h) ≡ true =
    subst (λ xs. member n xs ≡ true) (sym latch) (first-inside n rest) in
    let both = member-filter (λ s. is (fate past s) InDecode) n (numbers past h) inside in
    record { of_hart = numbers-of setup past legal h n both.0; waits = both.1 }

-- It is the oldest of all in the latch.
pub latch-oldest : (setup : Setup) (past : List Event) → is_legal setup past → (h n s : ℕ) (rest : List ℕ)
    → in_decode past h ≡ n ∷ rest → is_of past h s ≡ true → stage (fate past s) ≡ 1 → n ≤ s
latch-oldest setup past legal h n s rest latch of_s at =
    let inside =
    filter-member (λ z. is (fate past z) InDecode) s (numbers past h) (numbers-member setup past legal h s of_s)
    (grind (arith, nat_tests)) in
    first-least (in_decode past h) n
    (Rises-filter (λ z. is (fate past z) InDecode) (numbers past h) (numbers-rise setup past legal h))
    (ap first latch) s inside

-- ---- Its sources

-- The register that it finds is the committed one.
source-committed_by : (setup : Setup) (past : List Event) → is_legal setup past → (h r n at : ℕ) → IsAlone past h n at
    → is_in_flight (fate past n) ≡ true → (o : Option ℕ) → source past h r n ≡ o
    → source past h r n ≡ committer past h r
source-committed_by setup past legal h r n at alone flies None found =
    found ∙ sym (source-none setup past legal h r n alone.of_hart flies found)
source-committed_by setup past legal h r n at alone flies (Some w) found =
    let by = source-is past h r n w found in
    let older = by.older in
    let gone = alone.older w by.of_hart older in
    found ∙ sym (source-committed setup past legal h r n w alone.of_hart flies found (grind (arith, nat_tests)))

some_of : (o : Option ℕ) (v : ℕ) → o ≡ Some v → is_some o ≡ true
some_of o v at = ap is_some at

reading-some : (setup : Setup) (past : List Event) → is_legal setup past → (h r n at : ℕ) → IsAlone past h n at
    → is_in_flight (fate past n) ≡ true → r < 32 → is_some (reading setup past h r n) ≡ true
reading-some setup past legal h r n at alone flies high =
    elim (cases_Bool (r == 0)) [
      | inl none ↦ rw none refl
      | inr some ↦
          let low : 1 ≤ r = grind (arith, nat_tests) in
          let k = sequential setup past legal in
          let there = hart_there setup past legal h n alone.of_hart in
          let same : source_register past h r n ≡ committed past h r =
          ap (register_by past (first_register h r))
          (source-committed_by setup past legal h r n at alone flies (source past h r n) refl) in
          let holds : value setup past (source_register past h r n) ≡ Some (k.ran.state.registers h r) =
          ap (value setup past) same ∙ k.registers h r there low high in
          rw some (some_of (value setup past (source_register past h r n)) (k.ran.state.registers h r) holds)
    ]

reads-some : (setup : Setup) (past : List Event) → is_legal setup past → (which : Op → ℕ) → IsSourceName which
    → (h n at : ℕ) → IsAlone past h n at → is_in_flight (fate past n) ≡ true
    → is_some (reads setup which past n) ≡ true
reads-some setup past legal which names h n at alone flies =
    let found = known_fetched setup past legal n (grind (arith, nat_tests)) in
    let f = found.fetch in
    let same : f.hart ≡ h = is_of-one past f.hart h n found.of_hart alone.of_hart in
    let r = which (op_of_fetched (Some f)) in
    ap is_some (reading_by-is setup which past n f found.fetched)
    ∙ subst (λ g. is_some (reading setup past g r n) ≡ true) (sym same)
    (reading-some setup past legal h r n at alone flies (names f.word))

both_true : (a b : Bool) → a ≡ true → b ≡ true → (a && b) ≡ true
both_true a b one two = grind arith

pub ready-alone : (setup : Setup) (past : List Event) → is_legal setup past → (h n at : ℕ) → IsAlone past h n at
    → is_in_flight (fate past n) ≡ true → is_ready setup past n ≡ true
ready-alone setup past legal h n at alone flies =
    both_true (is_some (reads setup first_source past n)) (is_some (reads setup second_source past n))
    (reads-some setup past legal first_source first_source-below h n at alone flies)
    (reads-some setup past legal second_source second_source-below h n at alone flies)
