-- What a retirement commits and frees.
use Rattle.std.specs.Prelude.{◌≡◌, ◌≢◌, ℕ, ◌<◌, ◌≤◌, Bool, true, false, not, ◌==◌, ◌&&◌, ◌||◌, nat_lt, if◌then◌else◌}
use Rattle.std.specs.Prelude.{List, ◌∷◌, Option, Some, None, is_some}
use Rattle.std.proofs.Common.{◌∙◌, refl, sym, ap, subst, inl, inr, arith}
use Rattle.std.proofs.{lemmas.Bool.cases_Bool, lemmas.Bool.cases_eq, lemmas.Bool.Decides.nat_tests}
use Rattle.events.specs.{declared.effect.Effect.Effect, declared.event.Event.Event}
use Rattle.events.specs.{declared.event.Event.TheVariants.Retire, declared.effect.Next.Next}
use Rattle.events.specs.{declared.effect.Next.TheVariants.Pc, declared.effect.Next.TheVariants.Ended}
use Rattle.events.specs.{declared.effect.Next.TheVariants.Stopped, Event.seq_of}
use Rattle.smt_model.specs.{Basics.holds_of, Basics.or_zero, Setup.Setup, Setup.registers_of, Kinds.destination}
use Rattle.smt_model.specs.{Rules.refused, Rules.is_legal, Picture.is_free, declared.config.Status.Status}
use Rattle.smt_model.specs.{Nexts.is_last, Plain.status_after, Steps.renamed_map}
use Rattle.smt_model.specs.Fates.{Completed, Fetched, fate, fetching, is_in_flight, is_of, op_at}
use Rattle.smt_model.specs.Registers.{phys, namings, writes, committed, register_by, first_register, is_unclaimed}
use Rattle.smt_model.specs.Registers.{result_of}
use Rattle.smt_model.proofs.{Lists.member, Fates.Moves.fate_at, Fates.Moves.retire_was, Fates.Moves.stage-retired_as}
use Rattle.smt_model.proofs.Fates.Numbers.{is_fetched, is_of-one}
use Rattle.smt_laws.proofs.Registers.Committing.{committed-kept}
use Rattle.smt_laws.proofs.Registers.Committing.{committer-Retire, committer-Retire_other}
use Rattle.smt_laws.proofs.{Events.Calm.IsCalm, Events.Calm.fate-other, Events.Freeing.same_test}
use Rattle.smt_laws.proofs.{Events.Freeing.true_false, Registers.Namings.matched, Registers.Namings.named_is}
use Rattle.smt_laws.proofs.{Registers.Sources.writes-of, Registers.Counts.apart, Registers.Counts.committed-once}
use Rattle.smt_laws.proofs.{Registers.Counts.committed-range, Registers.Held.writer_named, Registers.Held.some_is}
use Rattle.smt_laws.proofs.{Registers.Below.destination-below, Fates.Choosing.hart_there, Steps.RenameMap.writes_where}
use Rattle.smt_model.proofs.Registers.Claims.{IsRegister, claimant, flight_claimed, committed_claimed}

pub was-Retire : (setup : Setup) (past : List Event) (actor n : ℕ) (effect : Effect)
    → refused setup past (Retire actor n effect) ≡ None
    → fate past n ≡ Completed
was-Retire setup past actor n effect ok = fate_at (fate past n) Completed (retire_was setup past actor n effect ok)

pub result-Retire : (past : List Event) (actor n : ℕ) (effect : Effect)
    → result_of (Retire actor n effect ∷ past) n ≡ effect.value
result-Retire past actor n effect = let same : (n == n) ≡ true = grind (arith, nat_tests) in rw same refl

-- The status where the instruction goes on.
pub goes_on : (next : Next) (before : Status) → is_last next ≡ false → status_after next before ≡ before
goes_on (Pc pc) before going = refl
goes_on (Ended number) before going = absurd (grind arith)
goes_on (Stopped cause) before going = absurd (grind arith)

-- ---- The committed map

pub committed-other : (setup : Setup) (past : List Event) → is_legal setup past → (actor n : ℕ) (effect : Effect)
    → refused setup past (Retire actor n effect) ≡ None → (g r : ℕ)
    → (writes past g r n && not (is_last effect.next)) ≡ false
    → committed (Retire actor n effect ∷ past) g r ≡ committed past g r
committed-other setup past legal actor n effect ok g r another =
    committed-kept setup past legal (Retire actor n effect) ok g r
    (committer-Retire_other setup past legal actor n effect ok g r another)

pub committed-own : (setup : Setup) (past : List Event) → is_legal setup past → (actor n : ℕ) (effect : Effect)
    → refused setup past (Retire actor n effect) ≡ None → is_last effect.next ≡ false → (h r : ℕ) → 1 ≤ r
    → writes past h r n ≡ true
    → committed (Retire actor n effect ∷ past) h r ≡ or_zero (phys past n)
committed-own setup past legal actor n effect ok going h r low mine =
    let was = retire_was setup past actor n effect ok in
    let named : member n (namings past) ≡ true =
    named_is setup past legal n ∙ writer_named setup past legal h r n low mine (omega arith) (omega arith) in
    ap (register_by (Retire actor n effect ∷ past) (first_register h r))
    (committer-Retire setup past legal actor n effect ok h r mine going named)

-- Whether an instruction of hart h writes r.
pub writes_at : (past : List Event) (h r n : ℕ) → is_of past h n ≡ true
    → writes past h r n ≡ (r == destination (op_at past n))
writes_at past h r n of_n = writes_where (fetching past n) h r of_n

-- Another hart's register isn't its.
pub writes_elsewhere : (past : List Event) (g r n : ℕ) → is_of past g n ≡ false → writes past g r n ≡ false
writes_elsewhere past g r n away =
    elim (cases_Bool (writes past g r n)) [
      | inl mine ↦ absurd (true_false (sym (writes-of past g r n mine) ∙ away))
      | inr another ↦ another
    ]

-- It takes a register just where it writes one.
pub fits : (setup : Setup) (past : List Event) → is_legal setup past → (actor n : ℕ) (effect : Effect)
    → refused setup past (Retire actor n effect) ≡ None → is_some (phys past n) ≡ not (destination (op_at past n) == 0)
fits setup past legal actor n effect ok =
    let was = retire_was setup past actor n effect ok in matched setup past legal n (omega arith) (omega arith)

none_written : (o : Option ℕ) (rd r : ℕ) → is_some o ≡ not (rd == 0) → o ≡ None → 1 ≤ r → (r == rd) ≡ false
none_written o rd r fits_it none low =
    let zero_rd : not (rd == 0) ≡ false = sym fits_it ∙ ap is_some none in grind (arith, nat_tests)

if_is : (test : Bool) (x y : ℕ) → test ≡ true → (if test then x else y) ≡ x
if_is test x y is_so = rw is_so refl

if_not : (test : Bool) (x y : ℕ) → test ≡ false → (if test then x else y) ≡ y
if_not test x y is_so = rw is_so refl

committed-Retire_by : (setup : Setup) (past : List Event) → is_legal setup past → (actor n : ℕ) (effect : Effect)
    → refused setup past (Retire actor n effect) ≡ None → is_last effect.next ≡ false → (h r : ℕ) → 1 ≤ r
    → is_of past h n ≡ true
    → (o : Option ℕ) → phys past n ≡ o
    → committed (Retire actor n effect ∷ past) h r ≡ renamed_map (destination (op_at past n)) o r (committed past h r)
committed-Retire_by setup past legal actor n effect ok going h r low of_n None named =
    committed-other setup past legal actor n effect ok h r
    (ap (λ b. b && not (is_last effect.next))
    (writes_at past h r n of_n ∙ none_written (phys past n) (destination (op_at past n)) r
    (fits setup past legal actor n effect ok) named low))
committed-Retire_by setup past legal actor n effect ok going h r low of_n (Some x) named =
    elim (cases_Bool (r == destination (op_at past n))) [
      | inl mine ↦
          committed-own setup past legal actor n effect ok going h r low (writes_at past h r n of_n ∙ mine)
          ∙ (ap or_zero named ∙ sym (if_is (r == destination (op_at past n)) x (committed past h r) mine))
      | inr another ↦
          committed-other setup past legal actor n effect ok h r
          (ap (λ b. b && not (is_last effect.next)) (writes_at past h r n of_n ∙ another))
          ∙ sym (if_not (r == destination (op_at past n)) x (committed past h r) another)
    ]

pub committed-Retire : (setup : Setup) (past : List Event) → is_legal setup past → (actor n : ℕ) (effect : Effect)
    → refused setup past (Retire actor n effect) ≡ None → is_last effect.next ≡ false → (h r : ℕ) → 1 ≤ r
    → is_of past h n ≡ true
    → committed (Retire actor n effect ∷ past) h r ≡ renamed_map (destination (op_at past n)) (phys past n) r
    (committed past h r)
committed-Retire setup past legal actor n effect ok going h r low of_n =
    committed-Retire_by setup past legal actor n effect ok going h r low of_n (phys past n) refl

-- ---- What becomes free

-- Who is in flight after a retirement was before, and who has register y flies on, but for the retiring one.
abbrev pub WasInFlight : List Event → Event → Type 0
WasInFlight past e = (s : ℕ) → is_in_flight (fate (e ∷ past) s) ≡ true → is_in_flight (fate past s) ≡ true

abbrev pub FliesOn : List Event → Event → ℕ → Type 0
FliesOn past e y = (s : ℕ) → s ≢ seq_of e → is_in_flight (fate past s) ≡ true → phys past s ≡ Some y
    → is_in_flight (fate (e ∷ past) s) ≡ true

pub has_landed : (setup : Setup) (past : List Event) (actor n : ℕ) (effect : Effect)
    → refused setup past (Retire actor n effect) ≡ None
    → is_in_flight (fate (Retire actor n effect ∷ past) n) ≢ true
has_landed setup past actor n effect ok flies =
    let was = retire_was setup past actor n effect ok in
    let told_it = stage-retired_as effect in
    absurd (grind (arith, nat_tests))

replaced-register : (setup : Setup) (past : List Event) → is_legal setup past → (actor n : ℕ) (effect : Effect)
    → refused setup past (Retire actor n effect) ≡ None → is_last effect.next ≡ false → (h d : ℕ) → IsRegister setup h d
    → writes past h d n ≡ true
    → (g r : ℕ) → IsRegister setup g r → committed (Retire actor n effect ∷ past) g r ≢ committed past h d
replaced-register setup past legal actor n effect ok going h d is_register mine g r other_register same =
    let e = Retire actor n effect in
    let was = retire_was setup past actor n effect ok in
    elim (cases_Bool (writes past g r n)) [
      | inl writes_it ↦
          let now = committed-own setup past legal actor n effect ok going g r other_register.low writes_it in
          let some = writer_named setup past legal h d n is_register.low mine (omega arith) (omega arith) in
          apart setup past legal n h d (ap is_in_flight (was-Retire setup past actor n effect ok)) is_register
          (some_is (phys past n) some ∙ ap Some (sym now ∙ same))
      | inr another ↦
          let kept = committed-other setup past legal actor n effect ok g r
          (ap (λ b. b && not (is_last effect.next)) another) in
          let both = committed-once setup past legal g r h d other_register is_register (sym kept ∙ same) in
          absurd
          (true_false
          (sym mine
          ∙ (ap (λ z. writes past z d n) (sym both.0)
          ∙ (ap (λ z. writes past g z n) (sym both.1) ∙ another))))
    ]

-- The register that was committed before, where another takes its place: nobody claims it any more.
replaced-unclaimed : (setup : Setup) (past : List Event) → is_legal setup past → (actor n : ℕ) (effect : Effect)
    → (ok : refused setup past (Retire actor n effect) ≡ None) → WasInFlight past (Retire actor n effect)
    → is_last effect.next ≡ false → (h d : ℕ)
    → IsRegister setup h d → writes past h d n ≡ true
    → is_unclaimed setup (Retire actor n effect ∷ past) (committed past h d) ≢ false
replaced-unclaimed setup past legal actor n effect ok back going h d is_register mine claimed =
    let e = Retire actor n effect in
    elim (claimant setup (e ∷ past) (committed past h d) claimed) [
      | inl flight_claim ↦
          let other : flight_claim.one ≢ n =
          (λ same. has_landed setup past actor n effect ok
          (subst (λ z. is_in_flight (fate (e ∷ past) z) ≡ true) same flight_claim.flies)) in
          absurd
          (apart setup past legal flight_claim.one h d (back flight_claim.one flight_claim.flies) is_register
          flight_claim.names)
      | inr other_claim ↦
          replaced-register setup past legal actor n effect ok going h d is_register mine other_claim.hart
          other_claim.register other_claim.is_register other_claim.commits
    ]

-- All others are claimed as before.
some_fetched : (o : Option Fetched) (h : ℕ) → holds_of (λ f. f.hart == h) o ≡ true → is_some o ≡ true
some_fetched None h of_h = absurd (grind arith)
some_fetched (Some f) h of_h = refl

not_both : (a b : Bool) → (a ≡ true → ⊥) → (a && b) ≡ false
not_both true b none = absurd (none refl)
not_both false b none = refl

below_32 : (past : List Event) (h n : ℕ) → is_of past h n ≡ true → destination (op_at past n) < 32
below_32 past h n of_n =
    let found = is_fetched past n (some_fetched (fetching past n) h of_n) in
    rw found.fetched (destination-below found.fetch.word)

pub own_register : (setup : Setup) (past : List Event) → is_legal setup past → (h n : ℕ) → is_of past h n ≡ true
    → 1 ≤ destination (op_at past n)
    → IsRegister setup h (destination (op_at past n))
own_register setup past legal h n of_n low =
    record { hart = hart_there setup past legal h n of_n; low = low; high = below_32 past h n of_n }

kept-claims : (setup : Setup) (past : List Event) → is_legal setup past → (actor n : ℕ) (effect : Effect)
    → (ok : refused setup past (Retire actor n effect) ≡ None) → is_last effect.next ≡ false → (h : ℕ)
    → is_of past h n ≡ true → (y : ℕ) → FliesOn past (Retire actor n effect) y
    → ((d : ℕ) → IsRegister setup h d → writes past h d n ≡ true → y ≢ committed past h d)
    → is_unclaimed setup past y ≡ false → is_unclaimed setup (Retire actor n effect ∷ past) y ≡ false
kept-claims setup past legal actor n effect ok going h of_n y on kept claimed =
    let e = Retire actor n effect in
    elim (claimant setup past y claimed) [
      | inl flight_claim ↦
          elim (cases_eq flight_claim.one n) [
            | inl here ↦
                let names : phys past n ≡ Some y = subst (λ z. phys past z ≡ Some y) here flight_claim.names in
                let d = destination (op_at past n) in
                let some : not (d == 0) ≡ true = sym (fits setup past legal actor n effect ok) ∙ ap is_some names in
                let low : 1 ≤ d = grind (arith, nat_tests) in
                let mine : writes past h d n ≡ true =
                writes_at past h d n of_n ∙ (let same : (d == d) ≡ true = grind (arith, nat_tests) in same) in
                let now : committed (e ∷ past) h d ≡ y =
                committed-own setup past legal actor n effect ok going h d low mine ∙ ap or_zero names in
                subst (λ z. is_unclaimed setup (e ∷ past) z ≡ false) now
                (committed_claimed setup (e ∷ past) h d (own_register setup past legal h n of_n low))
            | inr other ↦
                flight_claimed setup (e ∷ past) (ok, legal) flight_claim.one y
                (on flight_claim.one other flight_claim.flies flight_claim.names)
                flight_claim.names
          ]
      | inr other_claim ↦
          let g = other_claim.hart in
          let r = other_claim.register in
          let same : committed (e ∷ past) g r ≡ committed past g r =
          committed-other setup past legal actor n effect ok g r
          (not_both (writes past g r n) (not (is_last effect.next)) (λ writes_it.
          let is_h : h ≡ g = is_of-one past h g n of_n (writes-of past g r n writes_it) in
          kept r (subst (λ z. IsRegister setup z r) (sym is_h) other_claim.is_register)
          (subst (λ z. writes past z r n ≡ true) (sym is_h) writes_it)
          (sym other_claim.commits ∙ ap (λ z. committed past z r) (sym is_h)))) in
          subst (λ z. is_unclaimed setup (e ∷ past) z ≡ false) (same ∙ other_claim.commits)
          (committed_claimed setup (e ∷ past) g r other_claim.is_register)
    ]

claims-before : (setup : Setup) (past : List Event) → is_legal setup past → (actor n : ℕ) (effect : Effect)
    → (ok : refused setup past (Retire actor n effect) ≡ None) → WasInFlight past (Retire actor n effect)
    → is_last effect.next ≡ false → (y : ℕ)
    → is_unclaimed setup (Retire actor n effect ∷ past) y ≡ false → is_unclaimed setup past y ≡ false
claims-before setup past legal actor n effect ok back going y claimed =
    let e = Retire actor n effect in
    elim (claimant setup (e ∷ past) y claimed) [
      | inl flight_claim ↦
          let other : flight_claim.one ≢ n =
          (λ same. has_landed setup past actor n effect ok
          (subst (λ z. is_in_flight (fate (e ∷ past) z) ≡ true) same flight_claim.flies)) in
          flight_claimed setup past legal flight_claim.one y (back flight_claim.one flight_claim.flies)
          flight_claim.names
      | inr other_claim ↦
          let g = other_claim.hart in
          let r = other_claim.register in
          elim (cases_Bool (writes past g r n)) [
            | inl writes_it ↦
                let was = retire_was setup past actor n effect ok in
                let now : committed (e ∷ past) g r ≡ or_zero (phys past n) =
                committed-own setup past legal actor n effect ok going g r other_claim.is_register.low writes_it in
                let some = writer_named setup past legal g r n other_claim.is_register.low writes_it (omega arith)
                (omega arith) in
                flight_claimed setup past legal n y (ap is_in_flight (was-Retire setup past actor n effect ok))
                (some_is (phys past n) some ∙ ap Some (sym now ∙ other_claim.commits))
            | inr another ↦
                let same = committed-other setup past legal actor n effect ok g r
                (ap (λ b. b && not (is_last effect.next)) another) in
                subst (λ z. is_unclaimed setup past z ≡ false) (sym same ∙ other_claim.commits)
                (committed_claimed setup past g r other_claim.is_register)
          ]
    ]

first_of : (a b : Bool) → (a && b) ≡ true → a ≡ true
first_of a b passes = grind arith

same_of : (a : Bool) (x y : ℕ) → (a && (x == y)) ≡ true → x ≡ y
same_of a x y passes = grind (arith, nat_tests)

both_hold : (a : Bool) (x y : ℕ) → a ≡ true → x ≡ y → (a && (x == y)) ≡ true
both_hold a x y one two = grind (arith, nat_tests)

in_core : (x n : ℕ) → x < n → nat_lt x n ≡ true
in_core x n under = grind (arith, nat_tests)

pub or_none : (a : Bool) → (a || false) ≡ a
or_none true = refl
or_none false = refl

pub or_some : (a : Bool) → (a || true) ≡ true
or_some true = refl
or_some false = refl

still_flies : (past : List Event) (actor n : ℕ) (effect : Effect) → IsCalm past (Retire actor n effect)
    → (s : ℕ) → s ≢ n
    → is_in_flight (fate (Retire actor n effect ∷ past) s) ≡ is_in_flight (fate past s)
still_flies past actor n effect calm s other =
    ap is_in_flight (fate-other (Retire actor n effect) past s (λ same. other (sym same)) (calm s))

in_both : (a b : Bool) → a ≡ true → b ≢ false → (a && b) ≡ true
in_both a true one not_none = rw one refl
in_both a false one not_none = absurd (not_none refl)

-- A register that was committed before is free, where another takes its place.
pub free-replaced : (setup : Setup) (past : List Event) → is_legal setup past → (actor n : ℕ) (effect : Effect)
    → (ok : refused setup past (Retire actor n effect) ≡ None) → WasInFlight past (Retire actor n effect)
    → is_last effect.next ≡ false → (h : ℕ)
    → is_of past h n ≡ true → (y : ℕ)
    → (is_some (phys past n) && (y == committed past h (destination (op_at past n)))) ≡ true
    → is_free setup (Retire actor n effect ∷ past) y ≡ true
free-replaced setup past legal actor n effect ok back going h of_n y replaces =
    let e = Retire actor n effect in
    let d = destination (op_at past n) in
    let some : not (d == 0) ≡ true = sym (fits setup past legal actor n effect ok)
    ∙ first_of (is_some (phys past n)) (y == committed past h d) replaces in
    let low : 1 ≤ d = grind (arith, nat_tests) in
    let at : y ≡ committed past h d = same_of (is_some (phys past n)) y (committed past h d) replaces in
    let mine : writes past h d n ≡ true =
    writes_at past h d n of_n ∙ (let same : (d == d) ≡ true = grind (arith, nat_tests) in same) in
    let is_register = own_register setup past legal h n of_n low in
    in_both (nat_lt y (registers_of setup)) (is_unclaimed setup (e ∷ past) y)
    (in_core y (registers_of setup)
    (subst (λ z. z < registers_of setup) (sym at) (committed-range setup past legal h d is_register)))
    (subst (λ z. is_unclaimed setup (e ∷ past) z ≢ false) (sym at)
    (replaced-unclaimed setup past legal actor n effect ok back going h d is_register mine))

-- Any other is as free as it was, where it isn't given back.
pub free-kept : (setup : Setup) (past : List Event) → is_legal setup past → (actor n : ℕ) (effect : Effect)
    → (ok : refused setup past (Retire actor n effect) ≡ None) → WasInFlight past (Retire actor n effect)
    → is_last effect.next ≡ false → (h : ℕ)
    → is_of past h n ≡ true → (y : ℕ) → FliesOn past (Retire actor n effect) y
    → (is_some (phys past n) && (y == committed past h (destination (op_at past n)))) ≡ false
    → is_free setup (Retire actor n effect ∷ past) y ≡ is_free setup past y
free-kept setup past legal actor n effect ok back going h of_n y on keeps =
    let e = Retire actor n effect in
    let d = destination (op_at past n) in
    ap (λ b. nat_lt y (registers_of setup) && b)
    (same_test (is_unclaimed setup (e ∷ past) y) (is_unclaimed setup past y)
    (claims-before setup past legal actor n effect ok back going y)
    (kept-claims setup past legal actor n effect ok going h of_n y on (λ r is_register writes_it here.
    let is_d : (r == d) ≡ true = sym (writes_at past h r n of_n) ∙ writes_it in
    let was = retire_was setup past actor n effect ok in
    let some = writer_named setup past legal h r n is_register.low writes_it (omega arith) (omega arith) in
    let same : r ≡ d = grind (arith, nat_tests) in
    absurd
    (true_false
    (sym (both_hold (is_some (phys past n)) y (committed past h d) some (here ∙ ap (committed past h) same))
    ∙ keeps)))))

-- The free registers after a retirement that squashes nothing.
pub free-Retire : (setup : Setup) (past : List Event) → is_legal setup past → (actor n : ℕ) (effect : Effect)
    → (ok : refused setup past (Retire actor n effect) ≡ None) → IsCalm past (Retire actor n effect)
    → is_last effect.next ≡ false → (h : ℕ)
    → is_of past h n ≡ true → (y : ℕ)
    → is_free setup (Retire actor n effect ∷ past) y
    ≡ (is_free setup past y || (is_some (phys past n) && (y == committed past h (destination (op_at past n)))))
free-Retire setup past legal actor n effect ok calm going h of_n y =
    let e = Retire actor n effect in
    let d = destination (op_at past n) in
    let back : WasInFlight past e =
    (λ s flies.
    let other : s ≢ n =
    (λ same. has_landed setup past actor n effect ok
    (subst (λ z. is_in_flight (fate (e ∷ past) z) ≡ true) same flies)) in
    sym (still_flies past actor n effect calm s other) ∙ flies) in
    elim (cases_Bool (is_some (phys past n) && (y == committed past h d))) [
      | inl replaces ↦
          free-replaced setup past legal actor n effect ok back going h of_n y replaces
          ∙ sym (ap (λ b. is_free setup past y || b) replaces ∙ or_some (is_free setup past y))
      | inr keeps ↦
          free-kept setup past legal actor n effect ok back going h of_n y
          (λ s other flies names. still_flies past actor n effect calm s other ∙ flies) keeps
          ∙ sym (ap (λ b. is_free setup past y || b) keeps ∙ or_none (is_free setup past y))
    ]
