-- In a turn the instruction is offered to a unit of each kind: that of its own kind executes it, the others have no
-- answer.
use Rattle.std.specs.Prelude.{◌≡◌, ℕ, suc, Bool, true, false, ◌==◌, List, ◌∷◌, length, Option}
use Rattle.std.specs.Prelude.{Some, None, is_some, slice_get, option_and_then}
use Rattle.std.proofs.Common.{◌∙◌, refl, sym, ap, subst, inl, inr, arith}
use Rattle.std.proofs.{lemmas.Bool.cases_eq, lemmas.Bool.Decides.nat_tests}
use Rattle.rv_instr.specs.{Registers.op_unit, Registers.same_unit, declared.op.UnitKind.UnitKind, declared.op.Op.Op}
use Rattle.rv_instr.specs.declared.op.UnitKind.TheVariants.{Alu, Mul, Mem}
use Rattle.events.specs.{declared.event.Event.Event}
use Rattle.events.specs.declared.event.Event.TheVariants.{Issue, Complete, Drop}
use Rattle.smt_model.specs.{Basics.holds_of, Basics.below, Setup.Setup, Setup.unit_of_role}
use Rattle.events.specs.declared.role.Role.{Role}
use Rattle.smt_model.specs.{Jobs.unit_of_actor, Jobs.job, Jobs.is_actor}
use Rattle.smt_model.specs.{Memory.byte_at}
use Rattle.smt_model.specs.Rules.{refused, is_for, outcome_now}
use Rattle.smt_model.specs.Fates.{fate, fetching, op_at, op_of_fetched, stage}
use Rattle.smt_model.specs.Asks.{Ask, AskIssue, AskComplete}
use Rattle.smt_model.proofs.Lists.{first-passes, first-none}
use Rattle.smt_model.proofs.{Allowed.issue_allowed, Fates.Numbers.known_fetched, Registers.Claims.below-member}
use Rattle.smt_model.proofs.Fates.Moves.{issue_was, complete_lent, drop_lent}
use Rattle.smt_laws.specs.{Shown.Predictor, Scripts.unit_of_kind, Scripts.with_unit}
use Rattle.smt_laws.proofs.Showing.{Units.HasUnitFor, Answering.is_issue, Answering.is_complete, Replies.refused_one}
use Rattle.smt_laws.proofs.Showing.{Replies.answered, Replies.unanswered}
use Rattle.smt_laws.proofs.Showing.Turns.{IsSoFar, IsAlone, NoJobs, OthersWait, event-Issue, event-Complete, alone-next}
use Rattle.smt_laws.proofs.Showing.Turns.{others-wait, KeepsLatches, latches-next}
use Rattle.smt_laws.proofs.Showing.Finishing.{OneJob, issue-ok, issue-job, stage-Issue, complete-ok, complete-job}
use Rattle.smt_laws.proofs.Showing.Finishing.{stage-Complete, actor_of_unit}

-- After these asks of the turn of hart h its instruction n stands at this stage. It is what it was at the start of the
-- turn, and memory too.
pub record IsInTurn (setup : Setup) (predict : Predictor) (asks : List Ask) (harts : List ℕ) (h n : ℕ)
    (from : List Event) (at most : ℕ) (Jobs : List Event → Type 0) : Type 0 where
  pub past : List Event
  pub so : IsSoFar setup predict asks harts past most
  pub alone : IsAlone past h n at
  pub same : fetching past n ≡ fetching from n
  pub memory : byte_at setup past ≡ byte_at setup from
  pub keeps : KeepsLatches from past h
  pub waiting : OthersWait setup past h
  pub jobs : Jobs past

self_equal : (n : ℕ) → (n == n) ≡ true
self_equal n = grind (arith, nat_tests)

-- ---- A unit of its kind

issued : (setup : Setup) (predict : Predictor) (asks : List Ask) (harts : List ℕ) (h n : ℕ) (from : List Event)
    (most : ℕ)
    → IsInTurn setup predict asks harts h n from 3 most NoJobs → (unit : HasUnitFor setup (op_at from n))
    → IsInTurn setup predict (AskIssue unit.actor ∷ asks) harts h n from 4 (suc most) (λ past. OneJob past unit.actor n)
issued setup predict asks harts h n from most turn unit =
    let past = turn.past in
    let k = unit.actor in
    let e = Issue k n in
    let ok : refused setup past e ≡ None =
    issue-ok setup past turn.so.legal h n turn.alone turn.jobs
    (record {
      actor = k;
      suits = subst (λ o. holds_of (λ u. same_unit u (op_unit o)) (unit_of_actor setup k) ≡ true)
          (sym (ap op_of_fetched turn.same))
          unit.suits;
    }) in
    let by = event-Issue past k h n in
    let now = stage-Issue past k n turn.alone.stands in
    record {
      past = e ∷ past;
      so = answered setup predict asks harts harts past most turn.so (AskIssue k) e ok (self_equal k) tt
          turn.so.in_order;
      alone = alone-next past e h n 3 4 turn.alone by now;
      same = turn.same;
      memory = turn.memory;
      keeps = latches-next setup from past turn.so.legal e h n turn.alone.of_hart by (λ s. refl) (omega arith)
          turn.keeps;
      waiting = others-wait setup past turn.so.legal e h n turn.alone.of_hart by turn.waiting;
      jobs = issue-job past k n turn.jobs;
    }

completed : (setup : Setup) (predict : Predictor) (asks : List Ask) (harts : List ℕ) (k h n : ℕ) (from : List Event)
    (most : ℕ)
    → is_actor setup k ≡ true → IsInTurn setup predict asks harts h n from 4 most (λ past. OneJob past k n)
    → IsInTurn setup predict (AskComplete k ∷ asks) harts h n from 5 (suc most) NoJobs
completed setup predict asks harts k h n from most is_one turn =
    let past = turn.past in
    let was = turn.alone.stands in
    let found = known_fetched setup past turn.so.legal n (omega arith) in
    let o = outcome_now setup past n found.fetch in
    let e = Complete k n o in
    let ok = complete-ok setup past k h n is_one turn.alone turn.jobs found.fetch found.fetched in
    let by = event-Complete past k h n o turn.alone.of_hart in
    let now = stage-Complete past k n o was in
    record {
      past = e ∷ past;
      so = answered setup predict asks harts harts past most turn.so (AskComplete k) e ok (self_equal k) tt
          turn.so.in_order;
      alone = alone-next past e h n 4 5 turn.alone by now;
      same = turn.same;
      memory = turn.memory;
      keeps = latches-next setup from past turn.so.legal e h n turn.alone.of_hart by (λ s. refl) (omega arith)
          turn.keeps;
      waiting = others-wait setup past turn.so.legal e h n turn.alone.of_hart by turn.waiting;
      jobs = complete-job past k n o turn.jobs;
    }

executed : (setup : Setup) (predict : Predictor) (asks : List Ask) (harts : List ℕ) (h n : ℕ) (from : List Event)
    (most : ℕ)
    → IsInTurn setup predict asks harts h n from 3 most NoJobs → (unit : HasUnitFor setup (op_at from n))
    → IsInTurn setup predict (AskComplete unit.actor ∷ AskIssue unit.actor ∷ asks) harts h n from 5 (suc (suc most))
    NoJobs
executed setup predict asks harts h n from most turn unit =
    completed setup predict (AskIssue unit.actor ∷ asks) harts unit.actor h n from (suc most)
    (actor_of_unit setup (op_at from n) unit) (issued setup predict asks harts h n from most turn unit)

-- ---- Any other unit

never_issues : (setup : Setup) (past : List Event) (h n at k m : ℕ) → IsAlone past h n at
    → (at ≡ 3 → is_for setup past k n ≡ false) → refused setup past (Issue k m) ≡ None → ⊥
never_issues setup past h n at k m alone unfit ok =
    let rule = issue_allowed setup past k m ok in
    let was = issue_was setup past k m ok in
    elim (cases_eq m n) [
      | inl here ↦
          let same : at ≡ 3 = sym alone.stands ∙ (ap (λ z. stage (fate past z)) (sym here) ∙ was) in
          let fits : is_for setup past k n ≡ true = subst (λ z. is_for setup past k z ≡ true) here rule.suited in
          let never = unfit same in
          absurd (grind arith)
      | inr other ↦ let aside = alone.others m other in absurd (grind (arith, nat_tests))
    ]

no_job : (o : Option ℕ) (m : ℕ) → o ≡ None → o ≡ Some m → ⊥
no_job o m none some = absurd (grind arith)

-- An actor that has no job and is of another kind has no answer.
passed : (setup : Setup) (predict : Predictor) (asks : List Ask) (harts : List ℕ) (h n : ℕ) (from : List Event)
    (at most : ℕ)
    → IsInTurn setup predict asks harts h n from at most NoJobs → (k : ℕ)
    → (at ≡ 3 → holds_of (λ u. same_unit u (op_unit (op_at from n))) (unit_of_actor setup k) ≡ false)
    → IsInTurn setup predict (AskComplete k ∷ AskIssue k ∷ asks) harts h n from at most NoJobs
passed setup predict asks harts h n from at most turn k unfit =
    let past = turn.past in
    let not_for : at ≡ 3 → is_for setup past k n ≡ false =
    λ three. subst (λ o. holds_of (λ u. same_unit u (op_unit o)) (unit_of_actor setup k) ≡ false)
    (sym (ap op_of_fetched turn.same))
    (unfit three) in
    let no_issue =
    unanswered setup predict asks harts past most turn.so (AskIssue k)
    (λ e suits. is_issue past k e suits (λ z. is_some (refused setup past z) ≡ true) (λ m.
    refused_one (refused setup past (Issue k m)) (never_issues setup past h n at k m turn.alone not_for))) in
    record {
      past = past;
      so = unanswered setup predict (AskIssue k ∷ asks) harts past most no_issue (AskComplete k)
          (λ e suits. is_complete past k e suits (λ z. is_some (refused setup past z) ≡ true)
          (λ m o. refused_one (refused setup past (Complete k m o))
          (λ ok. no_job (job past k) m (turn.jobs k) (complete_lent setup past k m o ok)))
          (λ m. refused_one (refused setup past (Drop k m))
          (λ ok. no_job (job past k) m (turn.jobs k) (drop_lent setup past k m ok))));
      alone = turn.alone;
      same = turn.same;
      memory = turn.memory;
      keeps = turn.keeps;
      waiting = turn.waiting;
      jobs = turn.jobs;
    }

-- ---- A unit of each kind

same_unit-is : (a b : UnitKind) → same_unit a b ≡ true → a ≡ b
same_unit-is Alu Alu same = refl
same_unit-is Alu Mul same = absurd (grind arith)
same_unit-is Alu Mem same = absurd (grind arith)
same_unit-is Mul Alu same = absurd (grind arith)
same_unit-is Mul Mul same = refl
same_unit-is Mul Mem same = absurd (grind arith)
same_unit-is Mem Alu same = absurd (grind arith)
same_unit-is Mem Mul same = absurd (grind arith)
same_unit-is Mem Mem same = refl

other_unit : (kind wanted : UnitKind) (o : Option UnitKind) → holds_of (λ u. same_unit u kind) o ≡ true
    → same_unit kind wanted ≡ false → holds_of (λ u. same_unit u wanted) o ≡ false
other_unit kind wanted None holds apart = refl
other_unit kind wanted (Some u) holds apart =
    ap (λ z. same_unit z wanted) (same_unit-is u kind holds) ∙ apart

abbrev of_kind : List Role → UnitKind → ℕ → Bool
of_kind roles kind k = holds_of (λ u. same_unit u kind) (option_and_then unit_of_role (slice_get roles k))

-- The first of a kind is of it.
first_suits : (setup : Setup) (kind : UnitKind) (k : ℕ) → unit_of_kind setup.roles kind ≡ Some k
    → holds_of (λ u. same_unit u kind) (unit_of_actor setup k) ≡ true
first_suits setup kind k found = (first-passes (of_kind setup.roles kind) (below (length setup.roles)) k found).0

skipped_by : (setup : Setup) (predict : Predictor) (asks : List Ask) (harts : List ℕ) (h n : ℕ) (from : List Event)
    (at most : ℕ)
    → IsInTurn setup predict asks harts h n from at most NoJobs → (kind : UnitKind)
    → (at ≡ 3 → same_unit kind (op_unit (op_at from n)) ≡ false) → (o : Option ℕ) → unit_of_kind setup.roles kind ≡ o
    → IsInTurn setup predict (with_unit o asks) harts h n from at most NoJobs
skipped_by setup predict asks harts h n from at most turn kind apart None found = turn
skipped_by setup predict asks harts h n from at most turn kind apart (Some k) found =
    passed setup predict asks harts h n from at most turn k
    (λ three. other_unit kind (op_unit (op_at from n)) (unit_of_actor setup k) (first_suits setup kind k found)
    (apart three))

skipped : (setup : Setup) (predict : Predictor) (asks : List Ask) (harts : List ℕ) (h n : ℕ) (from : List Event)
    (at most : ℕ)
    → IsInTurn setup predict asks harts h n from at most NoJobs → (kind : UnitKind)
    → (at ≡ 3 → same_unit kind (op_unit (op_at from n)) ≡ false)
    → IsInTurn setup predict (with_unit (unit_of_kind setup.roles kind) asks) harts h n from at most NoJobs
skipped setup predict asks harts h n from at most turn kind apart =
    skipped_by setup predict asks harts h n from at most turn kind apart (unit_of_kind setup.roles kind) refl

-- A unit of the kind is there, so there is a first.
none_of_kind : (setup : Setup) (op : Op) → HasUnitFor setup op → unit_of_kind setup.roles (op_unit op) ≡ None → ⊥
none_of_kind setup op unit none =
    let suits = unit.suits in
    let is_one = actor_of_unit setup op unit in
    let inside = below-member (length setup.roles) unit.actor (grind (arith, nat_tests)) in
    let fails : of_kind setup.roles (op_unit op) unit.actor ≡ false =
    first-none (of_kind setup.roles (op_unit op)) (below (length setup.roles)) none unit.actor inside in
    absurd (grind arith)

taken_by : (setup : Setup) (predict : Predictor) (asks : List Ask) (harts : List ℕ) (h n : ℕ) (from : List Event)
    (most : ℕ)
    → IsInTurn setup predict asks harts h n from 3 most NoJobs → HasUnitFor setup (op_at from n) → (o : Option ℕ)
    → unit_of_kind setup.roles (op_unit (op_at from n)) ≡ o
    → IsInTurn setup predict (with_unit o asks) harts h n from 5 (suc (suc most)) NoJobs
taken_by setup predict asks harts h n from most turn unit None found = absurd
    (none_of_kind setup (op_at from n) unit found)
taken_by setup predict asks harts h n from most turn unit (Some k) found =
    executed setup predict asks harts h n from most turn
    (record { actor = k; suits = first_suits setup (op_unit (op_at from n)) k found })

taken : (setup : Setup) (predict : Predictor) (asks : List Ask) (harts : List ℕ) (h n : ℕ) (from : List Event)
    (most : ℕ)
    → IsInTurn setup predict asks harts h n from 3 most NoJobs → HasUnitFor setup (op_at from n) → (kind : UnitKind)
    → op_unit (op_at from n) ≡ kind
    → IsInTurn setup predict (with_unit (unit_of_kind setup.roles kind) asks) harts h n from 5 (suc (suc most)) NoJobs
taken setup predict asks harts h n from most turn unit kind is =
    taken_by setup predict asks harts h n from most turn unit (unit_of_kind setup.roles kind)
    (ap (unit_of_kind setup.roles) is)

five_three : {A : Type 0} → ◌≡◌ {A = ℕ} 5 3 → A
five_three same = absurd (omega arith)

-- All three kinds.
abbrev pub unit_asks : Setup → List Ask → List Ask
unit_asks setup asks =
    with_unit (unit_of_kind setup.roles Mem) (with_unit (unit_of_kind setup.roles Mul)
    (with_unit (unit_of_kind setup.roles Alu) asks))

done_by : (setup : Setup) (predict : Predictor) (asks : List Ask) (harts : List ℕ) (h n : ℕ) (from : List Event)
    (most : ℕ)
    → IsInTurn setup predict asks harts h n from 3 most NoJobs → HasUnitFor setup (op_at from n) → (kind : UnitKind)
    → op_unit (op_at from n) ≡ kind
    → IsInTurn setup predict (unit_asks setup asks) harts h n from 5 (suc (suc most)) NoJobs
done_by setup predict asks harts h n from most turn unit Alu is =
    let one = with_unit (unit_of_kind setup.roles Alu) asks in
    let two = with_unit (unit_of_kind setup.roles Mul) one in
    skipped setup predict two harts h n from 5 (suc (suc most))
    (skipped setup predict one harts h n from 5 (suc (suc most))
    (taken setup predict asks harts h n from most turn unit Alu is) Mul five_three) Mem five_three
done_by setup predict asks harts h n from most turn unit Mul is =
    let one = with_unit (unit_of_kind setup.roles Alu) asks in
    let two = with_unit (unit_of_kind setup.roles Mul) one in
    skipped setup predict two harts h n from 5 (suc (suc most))
    (taken setup predict one harts h n from most
    (skipped setup predict asks harts h n from 3 most turn Alu (λ three. ap (same_unit Alu) is)) unit Mul is)
    Mem five_three
done_by setup predict asks harts h n from most turn unit Mem is =
    let one = with_unit (unit_of_kind setup.roles Alu) asks in
    let two = with_unit (unit_of_kind setup.roles Mul) one in
    taken setup predict two harts h n from most
    (skipped setup predict one harts h n from 3 most
    (skipped setup predict asks harts h n from 3 most turn Alu (λ three. ap (same_unit Alu) is))
    Mul (λ three. ap (same_unit Mul) is)) unit Mem is

pub units-asked : (setup : Setup) (predict : Predictor) (asks : List Ask) (harts : List ℕ) (h n : ℕ) (from : List Event)
    (most : ℕ) → IsInTurn setup predict asks harts h n from 3 most NoJobs → HasUnitFor setup (op_at from n)
    → IsInTurn setup predict (unit_asks setup asks) harts h n from 5 (suc (suc most)) NoJobs
units-asked setup predict asks harts h n from most turn unit =
    done_by setup predict asks harts h n from most turn unit (op_unit (op_at from n)) refl
