-- No register is claimed twice: by two instructions in flight, by one and a register of a hart, or by two registers.
use Rattle.std.specs.Prelude.{◌≡◌, ◌≢◌, ℕ, suc, ◌*◌, ◌<◌, ◌≤◌, Bool, true, ◌==◌, ◌&&◌, List, [], ◌∷◌, Option, Some}
use Rattle.std.specs.Prelude.{None}
use Rattle.std.proofs.Common.{◌∙◌, refl, sym, ap, inl, inr, arith}
use Rattle.std.proofs.{lemmas.Bool.cases_Bool, lemmas.Bool.cases_lt, lemmas.Bool.Decides.nat_tests}
use Rattle.events.specs.declared.event.Event.{Event}
use Rattle.smt_model.specs.Basics.{holds_of, how_many, total, below, same_number, or_zero}
use Rattle.smt_model.specs.{Setup.Setup, Setup.registers_of, Kinds.destination, Flights.all_numbers, Rules.is_legal}
use Rattle.smt_model.specs.Fates.{Fetched, fate, is_in_flight, fetching, op_of_fetched}
use Rattle.smt_model.specs.Registers.{phys, committed, committer, holder, register_by, first_register, flight_claims}
use Rattle.smt_model.specs.Registers.{committed_claims, claims}
use Rattle.smt_model.proofs.Lists.{member, member-behind, Each-at, Rises}
use Rattle.smt_model.proofs.{Fates.Moves.same_number-is, Fates.Numbers.all_numbers-rise}
use Rattle.smt_laws.proofs.Registers.Namings.{in_range}
use Rattle.smt_laws.proofs.{Registers.Sources.committer-is, Registers.Held.is_held}
use Rattle.smt_model.proofs.Registers.Claims.{IsRegister, who_flies, who_commits, who_counts, who_sums, member-below}
use Rattle.smt_model.proofs.Registers.Claims.{below-rise}

-- ---- Claimants are alone

pub flights-once : (setup : Setup) (past : List Event) → is_legal setup past → (s t p : ℕ)
    → is_in_flight (fate past s) ≡ true
    → is_in_flight (fate past t) ≡ true → phys past s ≡ Some p → phys past t ≡ Some p → s ≡ t
flights-once setup past legal s t p flies also names too =
    let held = is_held setup past legal in
    let one = held.flying s p flies names in
    let two = held.flying t p also too in
    let same : Some s ≡ Some t = sym one ∙ two in
    grind arith

pub apart : (setup : Setup) (past : List Event) → is_legal setup past → (s h r : ℕ) → is_in_flight (fate past s) ≡ true
    → IsRegister setup h r
    → phys past s ≢ Some (committed past h r)
apart setup past legal s h r flies is_register names =
    let held = is_held setup past legal in
    let mine = held.flying s (committed past h r) flies names in
    let found : committer past h r ≡ Some s = sym (held.committing h r is_register) ∙ mine in
    let retired = (committer-is past h r s found).retired in
    absurd (grind (arith, nat_tests))

writes-one : (h r g q : ℕ) (o : Option Fetched)
    → holds_of (λ f. (f.hart == h) && (destination (op_of_fetched (Some f)) == r)) o ≡ true
    → holds_of (λ f. (f.hart == g) && (destination (op_of_fetched (Some f)) == q)) o ≡ true → (h ≡ g) × (r ≡ q)
writes-one h r g q None one two = absurd (grind arith)
writes-one h r g q (Some f) one two = grind (arith, nat_tests)

first_register-one : (h r g q : ℕ) → 1 ≤ r → r < 32 → 1 ≤ q → q < 32 → first_register h r ≡ first_register g q
    → (h ≡ g) × (r ≡ q)
first_register-one h r g q low high low_too high_too same = omega arith

committed-cases : (past : List Event) (h r g q : ℕ) → (setup : Setup) → IsRegister setup h r → IsRegister setup g q
    → committed past h r ≡ committed past g q → committer past h r ≡ committer past g q → (o : Option ℕ)
    → committer past h r ≡ o
    → (h ≡ g) × (r ≡ q)
committed-cases past h r g q setup here there same both None none =
    let first_one : committed past h r ≡ first_register h r = ap (register_by past (first_register h r)) none in
    let other : committed past g q ≡ first_register g q =
    ap (register_by past (first_register g q)) (sym both ∙ none) in
    first_register-one h r g q here.low here.high there.low there.high (sym first_one ∙ (same ∙ other))
committed-cases past h r g q setup here there same both (Some w) found =
    writes-one h r g q (fetching past w) (committer-is past h r w found).writes_it
    (committer-is past g q w (sym both ∙ found)).writes_it

pub committed-once : (setup : Setup) (past : List Event) → is_legal setup past → (h r g q : ℕ) → IsRegister setup h r
    → IsRegister setup g q
    → committed past h r ≡ committed past g q → (h ≡ g) × (r ≡ q)
committed-once setup past legal h r g q here there same =
    let held = is_held setup past legal in
    let both : committer past h r ≡ committer past g q =
    sym (held.committing h r here) ∙ (ap (λ p. holder past p) same ∙ held.committing g q there) in
    committed-cases past h r g q setup here there same both (committer past h r) refl

-- ---- As a count

-- Where no two pass, at most one is counted.
how_many-once : (test : ℕ → Bool) (xs : List ℕ) → Rises xs
    → ((x y : ℕ) → member x xs ≡ true → member y xs ≡ true → test x ≡ true → test y ≡ true → x ≡ y)
    → how_many test xs ≤ 1
how_many-once test [] rises once = omega arith
how_many-once test (x ∷ xs) rises once =
    elim (cases_Bool (test x)) [
      | inl kept ↦
          let none : how_many test xs ≤ 0 =
          elim (cases_lt 0 (how_many test xs)) [
            | inl some ↦
                let found = who_counts test xs some in
                let above : x < found.one = Each-at (λ z. x < z) xs rises.0 found.one found.inside in
                let same = once x found.one (grind (arith, nat_tests))
                (member-behind x found.one xs found.inside) kept found.passes in
                absurd (omega arith)
            | inr none ↦ none
          ] in
          rw kept (omega arith)
      | inr gone ↦
          rw gone
          (how_many-once test xs rises.1
          (λ a b in_a in_b. once a b (member-behind x a xs in_a) (member-behind x b xs in_b)))
    ]

total-once : (f : ℕ → ℕ) (xs : List ℕ) → Rises xs → ((x : ℕ) → member x xs ≡ true → f x ≤ 1)
    → ((x y : ℕ) → member x xs ≡ true → member y xs ≡ true → 1 ≤ f x → 1 ≤ f y → x ≡ y) → total f xs ≤ 1
total-once f [] rises each once = omega arith
total-once f (x ∷ xs) rises each once =
    let here = each x (grind (arith, nat_tests)) in
    let rest = total-once f xs rises.1 (λ y m. each y (member-behind x y xs m))
    (λ a b in_a in_b. once a b (member-behind x a xs in_a) (member-behind x b xs in_b)) in
    elim (cases_lt 0 (f x)) [
      | inl some ↦
          elim (cases_lt 0 (total f xs)) [
            | inl more ↦
                let found = who_sums f xs more in
                let above : x < found.one = Each-at (λ z. x < z) xs rises.0 found.one found.inside in
                let same = once x found.one (grind (arith, nat_tests))
                (member-behind x found.one xs found.inside) some found.counts in
                absurd (omega arith)
            | inr none ↦ omega arith
          ]
      | inr none ↦ omega arith
    ]

flight_claims-once : (setup : Setup) (past : List Event) → is_legal setup past → (p : ℕ) → flight_claims past p ≤ 1
flight_claims-once setup past legal p =
    how_many-once (λ s. is_in_flight (fate past s) && same_number (phys past s) (Some p)) (all_numbers past)
    (all_numbers-rise setup past legal)
    (λ x y in_x in_y one two.
    let flies : is_in_flight (fate past x) ≡ true = grind arith in
    let also : is_in_flight (fate past y) ≡ true = grind arith in
    flights-once setup past legal x y p flies also (same_number-is (phys past x) (Some p) (grind arith))
    (same_number-is (phys past y) (Some p) (grind arith)))

is_register-at : (setup : Setup) (h r : ℕ) → member h (below setup.harts) ≡ true → member r (below 31) ≡ true
    → IsRegister setup h (suc r)
is_register-at setup h r in_harts in_registers =
    let under = member-below 31 r in_registers in
    record { hart = member-below setup.harts h in_harts; low = omega arith; high = omega arith }

committed_claims-once : (setup : Setup) (past : List Event) → is_legal setup past → (p : ℕ)
    → committed_claims setup past p ≤ 1
committed_claims-once setup past legal p =
    let of_hart = λ (h : ℕ). how_many (λ r. committed past h (suc r) == p) (below 31) in
    total-once of_hart (below setup.harts) (below-rise setup.harts)
    (λ h in_h.
    how_many-once (λ r. committed past h (suc r) == p) (below 31) (below-rise 31) (λ x y in_x in_y one two.
    let same : committed past h (suc x) ≡ committed past h (suc y) = grind (arith, nat_tests) in
    let both = committed-once setup past legal h (suc x) h (suc y) (is_register-at setup h x in_h in_x)
    (is_register-at setup h y in_h in_y) same in
    omega (arith, both.1)))
    (λ g h in_g in_h one two.
    let x = who_counts (λ r. committed past g (suc r) == p) (below 31) one in
    let y = who_counts (λ r. committed past h (suc r) == p) (below 31) two in
    let at_x : (committed past g (suc x.one) == p) ≡ true = x.passes in
    let at_y : (committed past h (suc y.one) == p) ≡ true = y.passes in
    let same : committed past g (suc x.one) ≡ committed past h (suc y.one) = grind (arith, nat_tests) in
    (committed-once setup past legal g (suc x.one) h (suc y.one) (is_register-at setup g x.one in_g x.inside)
    (is_register-at setup h y.one in_h y.inside) same).0)

-- The law: at most one claims a register.
pub claims-once : (setup : Setup) (past : List Event) → is_legal setup past → (p : ℕ) → claims setup past p ≤ 1
claims-once setup past legal p =
    let flights = flight_claims-once setup past legal p in
    let registers = committed_claims-once setup past legal p in
    elim (cases_lt 0 (flight_claims past p)) [
      | inl flies ↦
          elim (cases_lt 0 (committed_claims setup past p)) [
            | inl commits ↦
                let one = who_flies past p flies in
                let two = who_commits setup past p commits in
                absurd
                (apart setup past legal one.one two.hart two.register one.flies two.is_register
                (one.names ∙ ap Some (sym two.commits)))
            | inr none ↦ omega arith
          ]
      | inr none ↦ omega arith
    ]

-- ---- All claimed registers are the core's

first_register-range : (setup : Setup) (h r : ℕ) → IsRegister setup h r → first_register h r < 31 * setup.harts
first_register-range setup h r is_register =
    let hart = is_register.hart in
    let low = is_register.low in
    let high = is_register.high in
    omega arith

or_zero-range : (setup : Setup) (past : List Event) → is_legal setup past → (h r w : ℕ) → IsRegister setup h r
    → (o : Option ℕ)
    → phys past w ≡ o → or_zero o < registers_of setup
or_zero-range setup past legal h r w is_register None at =
    let under = first_register-range setup h r is_register in omega arith
or_zero-range setup past legal h r w is_register (Some p) at = in_range setup past legal w p at

committed-range_by : (setup : Setup) (past : List Event) → is_legal setup past → (h r : ℕ) → IsRegister setup h r
    → (o : Option ℕ)
    → register_by past (first_register h r) o < registers_of setup
committed-range_by setup past legal h r is_register None =
    let under = first_register-range setup h r is_register in omega arith
committed-range_by setup past legal h r is_register (Some w) =
    or_zero-range setup past legal h r w is_register (phys past w) refl

pub committed-range : (setup : Setup) (past : List Event) → is_legal setup past → (h r : ℕ) → IsRegister setup h r
    → committed past h r < registers_of setup
committed-range setup past legal h r is_register =
    committed-range_by setup past legal h r is_register (committer past h r)
