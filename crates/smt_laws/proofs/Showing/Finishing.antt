-- The last three steps of a turn: its instruction issues to a unit of its kind, completes and retires.
use Rattle.std.specs.Prelude.{◌≡◌, ℕ, ◌≤◌, Bool, true, false, not, ◌==◌, ◌&&◌, nat_lt}
use Rattle.std.specs.Prelude.{if◌then◌else◌, List, [], ◌∷◌, ◌++◌, length, map, Option, Some, None, is_some}
use Rattle.std.specs.Prelude.{slice_get}
use Rattle.std.specs.List.{list_all}
use Rattle.std.proofs.Common.{◌∙◌, refl, ap, inl, inr, arith}
use Rattle.std.proofs.{lemmas.Bool.cases_Bool, lemmas.Bool.cases_lt}
use Rattle.std.proofs.{lemmas.Bool.Decides.nat_tests, lemmas.Option.slice_get_past}
use Rattle.rv_instr.specs.{Registers.op_unit, Registers.same_unit, declared.op.UnitKind.UnitKind, declared.op.Op.Op}
use Rattle.events.specs.{declared.effect.Outcome.Outcome, declared.effect.Effect.Effect, declared.event.Event.Event}
use Rattle.events.specs.{declared.effect.Next.Next, declared.effect.Next.TheVariants.Pc}
use Rattle.events.specs.{declared.effect.Next.TheVariants.Ended, declared.effect.Next.TheVariants.Stopped}
use Rattle.events.specs.{declared.effect.Written.Written}
use Rattle.events.specs.declared.event.Event.TheVariants.{Issue, Complete, Retire, Refetch}
use Rattle.smt_model.specs.Basics.{first, holds_of, same_number}
use Rattle.smt_model.specs.Comparisons.{same_next, same_write, same_outcome, same_effect}
use Rattle.smt_model.specs.{Setup.Setup, Jobs.is_actor, Jobs.unit_of_actor, Jobs.job}
use Rattle.smt_model.specs.{Account.order, Account.record_of, Account.records, Flights.flight}
use Rattle.smt_model.specs.{Flights.in_decode, Flights.numbers}
use Rattle.smt_model.specs.{Registers.is_ready}
use Rattle.smt_model.specs.Rules.{refused, is_legal, is_for, is_fresh, outcome_now, effect_now}
use Rattle.smt_model.specs.Fates.{Fate, Fetched, fate, fetching, is, is_in_flight, is_live, is_of, op_at, stage}
use Rattle.smt_model.specs.Fates.{InDecode}
use Rattle.smt_model.proofs.Allowed.{issue_allows, complete_allows, retire_allows, refetch_allows}
use Rattle.smt_model.proofs.Fates.Moves.{same_number-self, stage-retired_as}
use Rattle.smt_model.proofs.{Lists.filter-none, Lists.first-none}
use Rattle.smt_laws.proofs.{Fates.Once.refetched, Live.live-Refetch}
use Rattle.smt_laws.proofs.Showing.{Units.HasUnitFor}
use Rattle.smt_laws.proofs.Showing.Turns.{NoJobs, IsAlone}
use Rattle.smt_laws.proofs.Showing.Places.{place-one, flies_not_aside, queue-one, ready-alone}
use Rattle.smt_laws.proofs.Showing.Stages.{oldest_test}

-- ---- Issue

-- Actor k has n, and no other has anything.
abbrev pub OneJob : List Event → ℕ → ℕ → Type 0
OneJob past k n = (j : ℕ) → job past j ≡ (if k == j then Some n else None)

unit_known : (test : UnitKind → Bool) (o : Option UnitKind) → holds_of test o ≡ true → is_some o ≡ true
unit_known test None holds = absurd (grind arith)
unit_known test (Some kind) holds = refl

no_unit : (setup : Setup) (k : ℕ) → slice_get setup.roles k ≡ None → is_some (unit_of_actor setup k) ≡ true → ⊥
no_unit setup k none some =
    let not_one : is_some (unit_of_actor setup k) ≡ false = rw none refl in absurd (grind arith)

-- Who is a unit is an actor.
unit_is_actor : (setup : Setup) (k : ℕ) → is_some (unit_of_actor setup k) ≡ true → is_actor setup k ≡ true
unit_is_actor setup k some =
    elim (cases_lt k (length setup.roles)) [
      | inl under ↦ grind (arith, nat_tests)
      | inr beyond ↦ let none = slice_get_past setup.roles k beyond in absurd (no_unit setup k none some)
    ]

pub actor_of_unit : (setup : Setup) (op : Op) → (unit : HasUnitFor setup op) → is_actor setup unit.actor ≡ true
actor_of_unit setup op unit =
    unit_is_actor setup unit.actor
    (unit_known (λ u. same_unit u (op_unit op)) (unit_of_actor setup unit.actor) unit.suits)

none_younger : (n : ℕ) (rest : Bool) → (not (nat_lt n n && rest) && true) ≡ true
none_younger n rest = grind (arith, nat_tests)

pub issue-ok : (setup : Setup) (past : List Event) → is_legal setup past → (h n : ℕ) → IsAlone past h n 3 → NoJobs past
    → (unit : HasUnitFor setup (op_at past n)) → refused setup past (Issue unit.actor n) ≡ None
issue-ok setup past legal h n alone jobs unit =
    let k = unit.actor in
    let some : is_some (unit_of_actor setup k) ≡ true =
    unit_known (λ u. same_unit u (op_unit (op_at past n))) (unit_of_actor setup k) unit.suits in
    let at = alone.stands in
    issue_allows setup past k n (record {
      actor_is = actor_of_unit setup (op_at past n) unit;
      idle = rw (some, jobs k) refl;
      fated = grind (arith, nat_tests);
      suited = unit.suits;
      ready = ready-alone setup past legal h n 3 alone (grind (arith, nat_tests));
      oldest = ap (list_all (λ t. not (nat_lt t n && (is_for setup past k t && is_ready setup past t))))
          (queue-one setup past legal h n alone)
          ∙ none_younger n (is_for setup past k n && is_ready setup past n);
    })

pub issue-job : (past : List Event) (k n : ℕ) → NoJobs past → OneJob (Issue k n ∷ past) k n
issue-job past k n none j = ap (λ o. if k == j then Some n else o) (none j)

pub stage-Issue : (past : List Event) (k n : ℕ) → stage (fate past n) ≡ 3 → stage (fate (Issue k n ∷ past) n) ≡ 4
stage-Issue past k n was = grind (arith, nat_tests)

-- ---- Completion

same_next-self : (next : Next) → same_next next next ≡ true
same_next-self (Pc pc) = grind (arith, nat_tests)
same_next-self (Ended status) = grind (arith, nat_tests)
same_next-self (Stopped cause) = grind (arith, nat_tests)

same_outcome-self : (o : Outcome) → same_outcome o o ≡ true
same_outcome-self o =
    rw (
      same_number-self o.value,
      same_next-self o.next,
      same_number-self o.addr,
      same_number-self o.datum,
      same_number-self o.out,
    ) refl

own_job : (past : List Event) (k n : ℕ) → OneJob past k n → job past k ≡ Some n
own_job past k n one =
    let same : (k == k) ≡ true = grind (arith, nat_tests) in
    one k ∙ ap (λ b. if◌then◌else◌ {A = Option ℕ} b (Some n) None) same

pub complete-ok : (setup : Setup) (past : List Event) (k h n : ℕ) → is_actor setup k ≡ true → IsAlone past h n 4
    → OneJob past k n → (f : Fetched) → fetching past n ≡ Some f
    → refused setup past (Complete k n (outcome_now setup past n f)) ≡ None
complete-ok setup past k h n is_one alone job_is f at =
    let o = outcome_now setup past n f in
    let stands = alone.stands in
    complete_allows setup past k n o (record {
      actor_is = is_one;
      lent = ap (λ z. same_number z (Some n)) (own_job past k n job_is) ∙ same_number-self (Some n);
      spared = grind (arith, nat_tests);
      outcome_is = ap (holds_of (λ g. same_outcome o (outcome_now setup past n g))) at ∙ same_outcome-self o;
    })

job_done : (k j n : ℕ) → (if k == j then None else (if k == j then Some n else None)) ≡ None
job_done k j n = elim (cases_Bool (k == j)) [
  | inl here ↦ rw here refl
  | inr other ↦ rw other refl
]

pub complete-job : (past : List Event) (k n : ℕ) (o : Outcome) → OneJob past k n → NoJobs (Complete k n o ∷ past)
complete-job past k n o one j = ap (λ z. if k == j then None else z) (one j) ∙ job_done k j n

pub stage-Complete : (past : List Event) (k n : ℕ) (o : Outcome) → stage (fate past n) ≡ 4
    → stage (fate (Complete k n o ∷ past) n) ≡ 5
stage-Complete past k n o was = grind (arith, nat_tests)

-- ---- Retirement

same_write-self : (w : Option Written) → same_write w w ≡ true
same_write-self None = refl
same_write-self (Some w) = grind (arith, nat_tests)

same_effect-self : (x : Effect) → same_effect x x ≡ true
same_effect-self x =
    rw (same_number-self x.value, same_next-self x.next, same_write-self x.write, same_number-self x.out) refl

pub retire-ok : (setup : Setup) (past : List Event) → is_legal setup past → (k h n : ℕ) → is_actor setup k ≡ true
    → IsAlone past h n 5 → (f : Fetched) → fetching past n ≡ Some f → is_fresh setup past f ≡ true
    → refused setup past (Retire k n (effect_now setup past n f)) ≡ None
retire-ok setup past legal k h n is_one alone f at is_so =
    let x = effect_now setup past n f in
    let stands = alone.stands in
    let flies : is_in_flight (fate past n) ≡ true = grind (arith, nat_tests) in
    retire_allows setup past k n x (record {
      actor_is = is_one;
      fated = grind (arith, nat_tests);
      oldest = oldest_test past (flight past) h n [] alone.of_hart
          (place-one setup past legal is_in_flight flies_not_aside h n 5 alone flies);
      effect_is = ap (holds_of (λ g. same_effect x (effect_now setup past n g))) at ∙ same_effect-self x;
      fresh = ap (holds_of (is_fresh setup past)) at ∙ is_so;
    })

pub stage-Retire : (past : List Event) (k n : ℕ) (x : Effect) → stage (fate past n) ≡ 5
    → 6 ≤ stage (fate (Retire k n x ∷ past) n)
stage-Retire past k n x was = let told = stage-retired_as x in grind (arith, nat_tests, told)

pub order-Retire : (past : List Event) (k h n : ℕ) (x : Effect) (f : Fetched) → fetching past n ≡ Some f → f.hart ≡ h
    → order (Retire k n x ∷ past) ≡ h ∷ order past
order-Retire past k h n x f at same =
    ap (λ o. map (λ r. r.hart) (record_of o x ++ records past)) at ∙ ap (λ z. z ∷ order past) same

-- ---- A refetch

pub refetch-ok : (setup : Setup) (past : List Event) → is_legal setup past → (k h n : ℕ) → is_actor setup k ≡ true
    → IsAlone past h n 5 → (f : Fetched) → fetching past n ≡ Some f → is_fresh setup past f ≡ false
    → refused setup past (Refetch k n) ≡ None
refetch-ok setup past legal k h n is_one alone f at is_so =
    let stands = alone.stands in
    let flies : is_in_flight (fate past n) ≡ true = grind (arith, nat_tests) in
    refetch_allows setup past k n (record {
      actor_is = is_one;
      fated = grind (arith, nat_tests);
      oldest = oldest_test past (flight past) h n [] alone.of_hart
          (place-one setup past legal is_in_flight flies_not_aside h n 5 alone flies);
      stale = ap (holds_of (λ g. not (is_fresh setup past g))) at ∙ ap not is_so;
    })

-- It squashes its own instruction.
pub stage-Refetch : (setup : Setup) (past : List Event) → is_legal setup past → (k n : ℕ)
    → refused setup past (Refetch k n) ≡ None → 6 ≤ stage (fate (Refetch k n ∷ past) n)
stage-Refetch setup past legal k n ok = let gone = refetched setup past legal k n ok in omega arith
