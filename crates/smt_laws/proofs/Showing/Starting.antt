-- At the start each hart is fetched once: as long as some latch is empty, a fetch fills an empty one.
use Rattle.std.specs.Prelude.{◌≡◌, ◌⊎◌, ℕ, zero, suc, ◌+◌, ◌<◌, ◌≤◌, true, ◌==◌, List, [], ◌∷◌, length}
use Rattle.std.proofs.Common.{refl, sym, ap, subst, inl, inr, arith}
use Rattle.std.proofs.{lemmas.Bool.cases_lt, lemmas.Bool.cases_eq, lemmas.Bool.Decides.nat_tests}
use Rattle.events.specs.declared.event.Event.{Event}
use Rattle.smt_model.specs.{Basics.below, Basics.total, Setup.Setup, Jobs.is_actor, Flights.in_decode}
use Rattle.smt_model.specs.{Memory.is_going, Asks.Ask}
use Rattle.smt_model.proofs.Registers.Claims.{who_sums, counted_in_total, below-member, member-below, below-rise}
use Rattle.smt_laws.specs.{Shown.Predictor, Scripts.fetch_asks}
use Rattle.smt_laws.proofs.Showing.Counting.{length-below, total-bound, total-most, total-fewer, total-full, total-plus}
use Rattle.smt_laws.proofs.Showing.Counting.{total-none, one_if, found-once}
use Rattle.smt_laws.proofs.Showing.Turns.{IsSoFar, IsRested, NoJobs}
use Rattle.smt_laws.proofs.Showing.{Feeding.IsFed, Feeding.fed, Feeding.IsFreshLatch, Feeding.nothing_stale}
use Rattle.smt_laws.proofs.Showing.{Turning.IsAtRest, Turning.GoesOn}

-- ---- Empty latches

abbrev none_in : List ℕ → ℕ
none_in [] = 1
none_in (x ∷ xs) = 0

-- How many harts have an empty latch.
abbrev lacking : Setup → List Event → ℕ
lacking setup past = total (λ h. none_in (in_decode past h)) (below setup.harts)

-- How many instructions the latches have.
abbrev in_latches : Setup → List Event → ℕ
in_latches setup past = total (λ h. length (in_decode past h)) (below setup.harts)

none_in-most : (xs : List ℕ) → none_in xs ≤ 1
none_in-most [] = omega arith
none_in-most (x ∷ xs) = omega arith

none_in-empty : (xs : List ℕ) → 1 ≤ none_in xs → xs ≡ []
none_in-empty [] none = refl
none_in-empty (x ∷ xs) none = absurd (omega arith)

none_in-some : (xs : List ℕ) → none_in xs ≤ 0 → 1 ≤ length xs
none_in-some [] some = absurd (omega arith)
none_in-some (x ∷ xs) some = omega arith

none_in-filled : (xs : List ℕ) → 1 ≤ length xs → none_in xs ≡ 0
none_in-filled [] some = absurd (omega arith)
none_in-filled (x ∷ xs) some = refl

none_in-grows : (xs ys : List ℕ) → length xs ≤ length ys → none_in ys ≤ none_in xs
none_in-grows [] ys longer = none_in-most ys
none_in-grows (x ∷ xs) [] longer = absurd (omega arith)
none_in-grows (x ∷ xs) (y ∷ ys) longer = omega arith

-- ---- Fetch by fetch

record IsStarted (setup : Setup) (predict : Predictor) (made : ℕ) : Type 0 where
  pub past : List Event
  pub so : IsSoFar setup predict (fetch_asks made) [] past made
  pub rested : IsRested past
  pub jobs : NoJobs past
  pub lack : (lacking setup past + made ≤ setup.harts) ⊎ (lacking setup past ≡ 0)
  pub held : in_latches setup past ≤ made
  pub fresh : (h : ℕ) → IsFreshLatch setup past h

starts : (setup : Setup) (predict : Predictor) → IsStarted setup predict 0
starts setup predict =
    let bound =
    total-bound (λ h. none_in (in_decode [] h)) (below setup.harts) (λ h m. none_in-most (in_decode [] h)) in
    let all = length-below setup.harts in
    record {
      past = [];
      so = record { legal = tt; decided = tt; replied = refl; in_order = refl; count = omega arith };
      rested = λ s. refl;
      jobs = λ k. refl;
      lack = inl (omega arith);
      held = let none = total-none (below setup.harts) in omega arith;
      fresh = λ h. nothing_stale setup [] h refl;
    }

-- No more are empty than before.
no_more : (setup : Setup) (past now : List Event) → ((g : ℕ) → length (in_decode past g) ≤ length (in_decode now g))
    → lacking setup now ≤ lacking setup past
no_more setup past now grows =
    total-most (λ h. none_in (in_decode past h)) (λ h. none_in (in_decode now h)) (below setup.harts)
    (λ h m. none_in-grows (in_decode past h) (in_decode now h) (grows h))

-- One is filled.
one_less : (setup : Setup) (predict : Predictor) (asks : List Ask) (past : List Event) (most : ℕ)
    → (next : IsFed setup predict asks [] past most) → ((g : ℕ) → g < setup.harts → is_going past g ≡ true)
    → 1 ≤ lacking setup past → lacking setup next.now < lacking setup past
one_less setup predict asks past most next going some =
    let hart = who_sums (λ h. none_in (in_decode past h)) (below setup.harts) some in
    let there = member-below setup.harts hart.one hart.inside in
    let fill = next.fills hart.one there (going hart.one there) (none_in-empty (in_decode past hart.one) hart.counts) in
    let was : none_in (in_decode past next.one) ≡ 1 = ap none_in fill.empty in
    let is : none_in (in_decode next.now next.one) ≡ 0 = none_in-filled (in_decode next.now next.one) fill.filled in
    total-fewer (λ h. none_in (in_decode past h)) (λ h. none_in (in_decode next.now h)) next.one (below setup.harts)
    (below-member setup.harts next.one fill.there) (omega arith)
    (λ h m. none_in-grows (in_decode past h) (in_decode next.now h) (next.grows h))

lack-next : (setup : Setup) (predict : Predictor) (asks : List Ask) (past : List Event) (most made : ℕ)
    → (next : IsFed setup predict asks [] past most) → ((g : ℕ) → g < setup.harts → is_going past g ≡ true)
    → (lacking setup past + made ≤ setup.harts) ⊎ (lacking setup past ≡ 0)
    → (lacking setup next.now + suc made ≤ setup.harts) ⊎ (lacking setup next.now ≡ 0)
lack-next setup predict asks past most made next going (inr none) =
    let same = no_more setup past next.now next.grows in inr (omega arith)
lack-next setup predict asks past most made next going (inl few) =
    elim (cases_lt 0 (lacking setup past)) [
      | inl some ↦
          let less = one_less setup predict asks past most next going some in inl (omega arith)
      | inr none ↦ let same = no_more setup past next.now next.grows in inr (omega arith)
    ]

-- A fetch adds one at most.
held-next : (setup : Setup) (predict : Predictor) (asks : List Ask) (past : List Event) (most made : ℕ)
    → (next : IsFed setup predict asks [] past most) → in_latches setup past ≤ made
    → in_latches setup next.now ≤ suc made
held-next setup predict asks past most made next held =
    let hs = below setup.harts in
    let was : ℕ → ℕ = λ h. length (in_decode past h) in
    let more = next.more in
    let each : total (λ h. length (in_decode next.now h)) hs ≤ total (λ h. was h + one_if (next.one == h)) hs =
    total-most (λ h. was h + one_if (next.one == h)) (λ h. length (in_decode next.now h)) hs
    (λ h m. elim (cases_eq h next.one) [
      | inl here ↦
          subst (λ z. length (in_decode next.now z) ≤ was z + one_if (next.one == z)) (sym here)
          (let same : (next.one == next.one) ≡ true = grind (arith, nat_tests) in rw same (omega arith))
      | inr apart ↦ rw (next.others h apart) (omega arith)
    ]) in
    let sums = total-plus was (λ h. one_if (next.one == h)) hs in
    let once = found-once next.one hs (below-rise setup.harts) in
    omega arith

started : (setup : Setup) (predict : Predictor) → is_actor setup 0 ≡ true
    → ((h : ℕ) → h < setup.harts → GoesOn setup [] h) → (made : ℕ) → IsStarted setup predict made
started setup predict is_one goes zero = starts setup predict
started setup predict is_one goes (suc made) =
    let before = started setup predict is_one goes made in
    let past = before.past in
    let next = fed setup predict (fetch_asks made) [] past made before.so before.rested before.jobs is_one in
    record {
      past = next.now;
      so = next.so;
      rested = next.rested;
      jobs = next.jobs;
      lack = lack-next setup predict (fetch_asks made) past (suc made) made next
          (λ g there. goes g there past before.so.legal before.so.in_order) before.lack;
      held = held-next setup predict (fetch_asks made) past (suc made) made next before.held;
      fresh = λ h. next.fresh h (before.fresh h);
    }

none_lack : (setup : Setup) (past : List Event)
    → (lacking setup past + setup.harts ≤ setup.harts) ⊎ (lacking setup past ≡ 0) → lacking setup past ≡ 0
none_lack setup past (inl few) = omega arith
none_lack setup past (inr none) = none

-- Where each has one, and all together have no more than there are harts, each has one alone.
one_alone : (setup : Setup) (past : List Event) → in_latches setup past ≤ setup.harts
    → ((g : ℕ) → g < setup.harts → 1 ≤ length (in_decode past g)) → (h : ℕ) → h < setup.harts
    → length (in_decode past h) ≤ 1
one_alone setup past held some h there =
    elim (cases_lt 1 (length (in_decode past h))) [
      | inl two ↦
          let hs = below setup.harts in
          let all = length-below setup.harts in
          let ones = total-full (λ g. 1) hs (λ g m. omega arith) in
          let more = total-fewer (λ g. length (in_decode past g)) (λ g. 1) h hs (below-member setup.harts h there) two
          (λ g m. some g (member-below setup.harts g m)) in
          absurd (omega arith)
      | inr one ↦ one
    ]

-- Then each hart has one, and it isn't stale.
pub record IsAtStart (setup : Setup) (predict : Predictor) : Type 0 where
  pub rest : IsAtRest setup predict (fetch_asks setup.harts) [] setup.harts
  pub single : (h : ℕ) → h < setup.harts → length (in_decode rest.past h) ≤ 1
  pub fresh : (h : ℕ) → IsFreshLatch setup rest.past h

pub at_start : (setup : Setup) (predict : Predictor) → is_actor setup 0 ≡ true
    → ((h : ℕ) → h < setup.harts → GoesOn setup [] h) → IsAtStart setup predict
at_start setup predict is_one goes =
    let all = started setup predict is_one goes setup.harts in
    let none = none_lack setup all.past all.lack in
    let waits : (g : ℕ) → g < setup.harts → 1 ≤ length (in_decode all.past g) =
    λ g there.
    let one =
    counted_in_total (λ h. none_in (in_decode all.past h)) (below setup.harts) g
    (below-member setup.harts g there) in
    none_in-some (in_decode all.past g) (omega arith) in
    record {
      rest = record {
        past = all.past;
        so = all.so;
        rested = all.rested;
        jobs = all.jobs;
        waiting = λ g there going. waits g there;
      };
      single = one_alone setup all.past all.held waits;
      fresh = all.fresh;
    }
