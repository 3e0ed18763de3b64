-- Who claims a physical register: an instruction in flight, or a register of a hart. A register is unclaimed where
-- nobody does.
use Rattle.std.specs.Prelude.{◌≡◌, ◌≢◌, ◌⊎◌, ℕ, zero, suc, ◌+◌, ◌<◌, ◌≤◌, Bool, true, false, ◌==◌, ◌&&◌, List, [], ◌∷◌}
use Rattle.std.specs.Prelude.{Some}
use Rattle.std.proofs.{Common.inl, Common.inr, Common.arith, lemmas.Bool.cases_Bool, lemmas.Bool.cases_eq}
use Rattle.std.proofs.{lemmas.Bool.cases_lt, lemmas.Bool.Decides.nat_tests}
use Rattle.events.specs.declared.event.Event.{Event}
use Rattle.smt_model.specs.Basics.{how_many, total, below, same_number}
use Rattle.smt_model.specs.{Setup.Setup, Fates.fate, Fates.is_in_flight, Flights.all_numbers, Rules.is_legal}
use Rattle.smt_model.specs.Registers.{phys, committed, flight_claims, committed_claims, is_unclaimed}
use Rattle.smt_model.proofs.Lists.{member, member-behind, member-append, Rises, Rises-push}
use Rattle.smt_model.proofs.{Fates.Moves.same_number-is, Fates.Moves.same_number-self, Fates.Numbers.known_below}
use Rattle.smt_model.proofs.Fates.Numbers.{all_numbers-member}

-- ---- Counting

-- One that passes is counted, and where one is counted one passes.
pub counted : (test : ℕ → Bool) (xs : List ℕ) (x : ℕ) → member x xs ≡ true → test x ≡ true → 1 ≤ how_many test xs
counted test [] x m passes = absurd (grind arith)
counted test (y ∷ xs) x m passes =
    elim (cases_Bool (test y)) [
      | inl kept ↦ rw kept (omega arith)
      | inr gone ↦ rw gone (counted test xs x (grind (arith, nat_tests)) passes)
    ]

pub record IsCounted (test : ℕ → Bool) (xs : List ℕ) : Type 0 where
  pub one : ℕ
  pub inside : member one xs ≡ true
  pub passes : test one ≡ true

pub who_counts : (test : ℕ → Bool) (xs : List ℕ) → 1 ≤ how_many test xs → IsCounted test xs
who_counts test [] some = absurd (omega arith)
who_counts test (y ∷ xs) some =
    elim (cases_Bool (test y)) [
      | inl kept ↦ record { one = y; inside = grind (arith, nat_tests); passes = kept }
      | inr gone ↦
          let rest = who_counts test xs (rw gone at some) in
          record { one = rest.one; inside = member-behind y rest.one xs rest.inside; passes = rest.passes }
    ]

pub counted_in_total : (f : ℕ → ℕ) (xs : List ℕ) (x : ℕ) → member x xs ≡ true → f x ≤ total f xs
counted_in_total f [] x m = absurd (grind arith)
counted_in_total f (y ∷ xs) x m =
    elim (cases_eq y x) [
      | inl here ↦ rw here (omega arith)
      | inr other ↦ let rest = counted_in_total f xs x (grind (arith, nat_tests)) in omega arith
    ]

pub record IsSummed (f : ℕ → ℕ) (xs : List ℕ) : Type 0 where
  pub one : ℕ
  pub inside : member one xs ≡ true
  pub counts : 1 ≤ f one

pub who_sums : (f : ℕ → ℕ) (xs : List ℕ) → 1 ≤ total f xs → IsSummed f xs
who_sums f [] some = absurd (omega arith)
who_sums f (y ∷ xs) some =
    elim (cases_lt 0 (f y)) [
      | inl here ↦ record { one = y; inside = grind (arith, nat_tests); counts = here }
      | inr none ↦
          let rest = who_sums f xs (omega arith) in
          record { one = rest.one; inside = member-behind y rest.one xs rest.inside; counts = rest.counts }
    ]

-- The numbers below n.
pub below-member : (n x : ℕ) → x < n → member x (below n) ≡ true
below-member zero x under = absurd (omega arith)
below-member (suc n) x under =
    let parts = member-append x (below n) (n ∷ []) in
    let rest = below-member n x in
    grind (arith, nat_tests, parts, rest)

pub member-below : (n x : ℕ) → member x (below n) ≡ true → x < n
member-below zero x m = absurd (grind arith)
member-below (suc n) x m =
    let parts = member-append x (below n) (n ∷ []) in
    let rest = member-below n x in
    grind (arith, nat_tests, parts, rest)

pub below-rise : (n : ℕ) → Rises (below n)
below-rise zero = tt
below-rise (suc n) = Rises-push (below n) n (below-rise n) (λ x m. member-below n x m)

-- ---- Claimants

-- r is one of x1 to x31 of a hart that is there.
pub record IsRegister (setup : Setup) (h r : ℕ) : Type 0 where
  pub hart : h < setup.harts
  pub low : 1 ≤ r
  pub high : r < 32

-- An instruction in flight has p.
pub record IsFlightClaim (past : List Event) (p : ℕ) : Type 0 where
  pub one : ℕ
  pub flies : is_in_flight (fate past one) ≡ true
  pub names : phys past one ≡ Some p

-- A register of a hart is committed to p.
pub record IsCommittedClaim (setup : Setup) (past : List Event) (p : ℕ) : Type 0 where
  pub hart : ℕ
  pub register : ℕ
  pub is_register : IsRegister setup hart register
  pub commits : committed past hart register ≡ p

pub flight-counts : (setup : Setup) (past : List Event) → is_legal setup past → (s p : ℕ)
    → is_in_flight (fate past s) ≡ true
    → phys past s ≡ Some p → 1 ≤ flight_claims past p
flight-counts setup past legal s p flies names =
    let under = known_below setup past legal s (grind (arith, nat_tests)) in
    let same : same_number (phys past s) (Some p) ≡ true = rw names (same_number-self (Some p)) in
    counted (λ x. is_in_flight (fate past x) && same_number (phys past x) (Some p)) (all_numbers past) s
    (all_numbers-member setup past legal s under) (grind arith)

pub committed-counts : (setup : Setup) (past : List Event) (h r : ℕ) → IsRegister setup h r
    → 1 ≤ committed_claims setup past (committed past h r)
committed-counts setup past h zero is_register = absurd (omega arith)
committed-counts setup past h (suc r) is_register =
    let p = committed past h (suc r) in
    let here : 1 ≤ how_many (λ x. committed past h (suc x) == p) (below 31) =
    counted (λ x. committed past h (suc x) == p) (below 31) r (below-member 31 r (omega arith))
    (grind (arith, nat_tests)) in
    let all = counted_in_total (λ g. how_many (λ x. committed past g (suc x) == p) (below 31)) (below setup.harts) h
    (below-member setup.harts h is_register.hart) in
    omega arith

pub flight_claimed : (setup : Setup) (past : List Event) → is_legal setup past → (s p : ℕ)
    → is_in_flight (fate past s) ≡ true
    → phys past s ≡ Some p → is_unclaimed setup past p ≡ false
unfolding is_unclaimed
flight_claimed setup past legal s p flies names =
    let counts = flight-counts setup past legal s p flies names in grind (arith, nat_tests)

pub committed_claimed : (setup : Setup) (past : List Event) (h r : ℕ) → IsRegister setup h r
    → is_unclaimed setup past (committed past h r) ≡ false
unfolding is_unclaimed
committed_claimed setup past h r is_register =
    let counts = committed-counts setup past h r is_register in grind (arith, nat_tests)

pub who_flies : (past : List Event) (p : ℕ) → 1 ≤ flight_claims past p → IsFlightClaim past p
who_flies past p some =
    let found =
    who_counts (λ x. is_in_flight (fate past x) && same_number (phys past x) (Some p)) (all_numbers past) some in
    let s = found.one in
    let passes : (is_in_flight (fate past s) && same_number (phys past s) (Some p)) ≡ true = found.passes in
    record { one = s; flies = grind arith; names = same_number-is (phys past s) (Some p) (grind arith) }

pub who_commits : (setup : Setup) (past : List Event) (p : ℕ) → 1 ≤ committed_claims setup past p
    → IsCommittedClaim setup past p
who_commits setup past p some =
    let hart = who_sums (λ g. how_many (λ x. committed past g (suc x) == p) (below 31)) (below setup.harts) some in
    let register = who_counts (λ x. committed past hart.one (suc x) == p) (below 31) hart.counts in
    let inside = member-below 31 register.one register.inside in
    let passes : (committed past hart.one (suc register.one) == p) ≡ true = register.passes in
    record {
      hart = hart.one;
      register = suc register.one;
      is_register =
          record { hart = member-below setup.harts hart.one hart.inside; low = omega arith; high = omega arith };
      commits = grind (arith, nat_tests);
    }

-- A register that isn't unclaimed has a claimant.
pub claimant : (setup : Setup) (past : List Event) (p : ℕ) → is_unclaimed setup past p ≡ false
    → IsFlightClaim past p ⊎ IsCommittedClaim setup past p
unfolding is_unclaimed
claimant setup past p claimed =
    let some : 1 ≤ flight_claims past p + committed_claims setup past p = grind (arith, nat_tests) in
    elim (cases_lt 0 (flight_claims past p)) [
      | inl flies ↦ inl (who_flies past p flies)
      | inr none ↦ inr (who_commits setup past p (omega arith))
    ]

-- ---- An unclaimed register is nobody's

pub unclaimed_flight : (setup : Setup) (past : List Event) → is_legal setup past → (s p : ℕ)
    → is_unclaimed setup past p ≡ true
    → is_in_flight (fate past s) ≡ true → phys past s ≢ Some p
unclaimed_flight setup past legal s p unclaimed flies names =
    let claimed = flight_claimed setup past legal s p flies names in absurd (grind arith)

pub unclaimed_committed : (setup : Setup) (past : List Event) (h r p : ℕ) → is_unclaimed setup past p ≡ true
    → IsRegister setup h r
    → committed past h r ≢ p
unclaimed_committed setup past h r p unclaimed is_register same =
    let claimed = committed_claimed setup past h r is_register in absurd (grind arith)
