-- While nothing is in flight some register is unclaimed: the harts have 31 each committed, and there are more. So one
-- is the least.
use Rattle.std.specs.Prelude.{◌≡◌, ◌⊎◌, ℕ, zero, suc, ◌*◌, ◌<◌, ◌≤◌, Bool, true, false, ◌==◌, nat_lt, List}
use Rattle.std.specs.Prelude.{length}
use Rattle.std.proofs.Common.{sym, subst, inl, inr, arith}
use Rattle.std.proofs.{lemmas.Bool.cases_Bool, lemmas.Bool.cases_eq, lemmas.Bool.cases_lt}
use Rattle.std.proofs.{lemmas.Bool.Decides.nat_tests}
use Rattle.events.specs.declared.event.Event.{Event}
use Rattle.smt_model.specs.{Basics.how_many, Basics.total, Basics.below, Setup.Setup, Setup.registers_of}
use Rattle.smt_model.specs.{Fates.fate, Fates.is_in_flight, Picture.is_free}
use Rattle.smt_model.specs.Registers.{committed, committed_claims, flight_claims, is_unclaimed}
use Rattle.smt_model.proofs.Registers.Claims.{below-rise, member-below}
use Rattle.smt_model.proofs.Registers.Claims.{who_flies}
use Rattle.smt_laws.proofs.Showing.Counting.{length-below, total-full, images-bound, sums-bound}

-- ---- The least number that passes a test

pub record IsLeast (test : ℕ → Bool) (bound : ℕ) : Type 0 where
  pub least : ℕ
  pub under : least < bound
  pub passes : test least ≡ true
  pub first : (q : ℕ) → q < least → test q ≡ false

abbrev pub NonePasses : (ℕ → Bool) → ℕ → Type 0
NonePasses test bound = (q : ℕ) → q < bound → test q ≡ false

least_or_none : (test : ℕ → Bool) (bound : ℕ) → IsLeast test bound ⊎ NonePasses test bound
least_or_none test zero = inr (λ q under. absurd (omega arith))
least_or_none test (suc bound) =
    elim (least_or_none test bound) [
      | inl found ↦
          let below_it = found.under in
          inl (record { least = found.least; under = omega arith; passes = found.passes; first = found.first })
      | inr none ↦
          elim (cases_Bool (test bound)) [
            | inl passes ↦ inl (record { least = bound; under = omega arith; passes = passes; first = none })
            | inr fails ↦ inr (λ q under. elim (cases_eq q bound) [
              | inl here ↦ subst (λ z. test z ≡ false) (sym here) fails
              | inr other ↦ none q (omega arith)
            ])
          ]
    ]

-- ---- Some register is free

-- Nothing is in flight.
abbrev pub NothingFlies : List Event → Type 0
NothingFlies past = (s : ℕ) → is_in_flight (fate past s) ≡ false

unclaimed_by_flights : (past : List Event) → NothingFlies past → (p : ℕ) → flight_claims past p ≡ 0
unclaimed_by_flights past none p =
    elim (cases_lt 0 (flight_claims past p)) [
      | inl some ↦
          let one = who_flies past p some in
          let never = none one.one in
          let flies = one.flies in
          absurd (grind arith)
      | inr zero_claims ↦ omega arith
    ]

claimed_then : (setup : Setup) (past : List Event) → NothingFlies past → (p : ℕ) → p < registers_of setup
    → is_free setup past p ≡ false → 1 ≤ committed_claims setup past p
unfolding is_unclaimed
claimed_then setup past none p inside taken =
    let nobody = unclaimed_by_flights past none p in
    let under : nat_lt p (registers_of setup) ≡ true = grind (arith, nat_tests) in
    grind (arith, nat_tests)

committed-bound : (setup : Setup) (past : List Event) (ps : ℕ)
    → total (committed_claims setup past) (below ps) ≤ 31 * setup.harts
committed-bound setup past ps =
    let counts = sums-bound (λ h p. how_many (λ r. committed past h (suc r) == p) (below 31)) 31 (below setup.harts)
    (below ps) (λ h.
    let here = images-bound (λ r. committed past h (suc r)) (below 31) (below ps) (below-rise ps) in
    let all : length (below 31) ≡ 31 = length-below 31 in
    omega arith) in
    let harts = length-below setup.harts in
    subst (λ n. total (committed_claims setup past) (below ps) ≤ 31 * n) harts counts

pub spare : (setup : Setup) (past : List Event) → 1 ≤ setup.extra → NothingFlies past
    → IsLeast (is_free setup past) (registers_of setup)
spare setup past more none =
    elim (least_or_none (is_free setup past) (registers_of setup)) [
      | inl found ↦ found
      | inr taken ↦
          let all = total-full (committed_claims setup past) (below (registers_of setup)) (λ p m.
          let inside = member-below (registers_of setup) p m in
          claimed_then setup past none p inside (taken p inside)) in
          let bound = committed-bound setup past (registers_of setup) in
          let many = length-below (registers_of setup) in
          absurd (omega arith)
    ]
