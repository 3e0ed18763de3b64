-- What the rules of an issue say of the picture, and back: it can be made exactly where the event is allowed.
use Rattle.std.specs.Prelude.{◌≡◌, ℕ, ◌==◌, ◌&&◌, nat_lt, not, Bool, true, List, [], ◌∷◌, Option, Some, None, is_some}
use Rattle.std.specs.Prelude.{is_none}
use Rattle.std.specs.List.{list_all, list_any}
use Rattle.std.proofs.Common.{◌∙◌, refl, sym, ap, subst, arith}
use Rattle.std.proofs.{lemmas.Bool.and_parts, lemmas.Bool.and_from, lemmas.Bool.Decides.nat_tests}
use Rattle.rv_instr.specs.{Registers.op_unit, declared.op.UnitKind.UnitKind}
use Rattle.events.specs.{declared.event.Event.Event, declared.event.Event.TheVariants.Issue}
use Rattle.issue_queue.specs.declared.entry.Entry.{Entry}
use Rattle.smt_model.specs.{Basics.holds_of, Setup.Setup, Kinds.same_unit, Flights.all_numbers, Flights.queue}
use Rattle.smt_model.specs.{Registers.is_ready, Rules.refused, Rules.is_legal, Jobs.is_actor, Jobs.unit_of_actor}
use Rattle.smt_model.specs.{Jobs.job, Picture.picture}
use Rattle.smt_model.specs.Fates.{fate, is, is_of, op_at, Renamed}
use Rattle.smt_model.proofs.{Lists.member, Lists.filter-member, Allowed.issue_allowed, Allowed.issue_allows}
use Rattle.smt_model.proofs.{Fates.Moves.fate_at, Fates.Moves.issue_was, Fates.Numbers.known_below}
use Rattle.smt_model.proofs.Fates.Numbers.{all_numbers-member}
use Rattle.smt_laws.proofs.Steps.Issue.{steps-Issue}
use Rattle.core_parts.specs.{Agree.IsEntry}
use Rattle.core_steps.specs.{Issuing.CanIssue, Issuing.IsIssuing}

-- The last rule, for an actor whose unit is known.
abbrev pub none_before : Setup → List Event → Option UnitKind → ℕ → Bool
none_before setup past unit n =
    list_all
    (λ t. not (nat_lt t n && (holds_of (λ u. same_unit u (op_unit (op_at past t))) unit && is_ready setup past t)))
    (queue past)

-- ---- From the picture to the rules

pub issue_may : (setup : Setup) (past : List Event) (actor n : ℕ) (kind : UnitKind) → is_actor setup actor ≡ true
    → unit_of_actor setup actor ≡ Some kind → CanIssue (picture setup past) actor kind n
    → refused setup past (Issue actor n) ≡ None
issue_may setup past actor n kind is_one of_kind can =
    let fits = and_parts (same_unit kind (op_unit (op_at past n))) (is_ready setup past n) can.fits in
    let known : Some kind ≡ unit_of_actor setup actor = sym of_kind in
    issue_allows setup past actor n (record {
      actor_is = is_one;
      idle = subst (λ o. (is_some o && is_none (job past actor)) ≡ true) known (ap is_none can.idle);
      fated = ap (λ f. is f Renamed) can.waits;
      suited = subst (λ o. holds_of (λ u. same_unit u (op_unit (op_at past n))) o ≡ true) known fits.0;
      ready = fits.1;
      oldest = subst (λ o. none_before setup past o n ≡ true) known can.oldest;
    })

-- ---- And back

member_any : (n : ℕ) (xs : List ℕ) → member n xs ≡ true → list_any (λ t. t == n) xs ≡ true
member_any n [] m = m
member_any n (x ∷ xs) m = grind (arith, nat_tests, member_any n xs)

no_open_job : (o : Option ℕ) → is_none o ≡ true → o ≡ None
no_open_job None none = refl
no_open_job (Some s) none = absurd (grind arith)

-- An actor that may issue is a unit.
pub record IsUnit (setup : Setup) (actor : ℕ) : Type 0 where
  pub kind : UnitKind
  pub is : unit_of_actor setup actor ≡ Some kind

unit_known : (o : Option UnitKind) → is_some o ≡ true → (kind : UnitKind) × (o ≡ Some kind)
unit_known None some = absurd (grind arith)
unit_known (Some kind) some = (kind, refl)

pub issue_unit : (setup : Setup) (past : List Event) (actor n : ℕ) → refused setup past (Issue actor n) ≡ None
    → IsUnit setup actor
issue_unit setup past actor n ok =
    let idle = and_parts (is_some (unit_of_actor setup actor)) (is_none (job past actor))
    (issue_allowed setup past actor n ok).idle in
    let known = unit_known (unit_of_actor setup actor) idle.0 in
    record { kind = known.0; is = known.1 }

pub issue_can : (setup : Setup) (past : List Event) → is_legal setup past → (actor n : ℕ) (kind : UnitKind)
    → unit_of_actor setup actor ≡ Some kind
    → refused setup past (Issue actor n) ≡ None → CanIssue (picture setup past) actor kind n
issue_can setup past legal actor n kind of_kind ok =
    let rule = issue_allowed setup past actor n ok in
    let idle = and_parts (is_some (unit_of_actor setup actor)) (is_none (job past actor)) rule.idle in
    let was = issue_was setup past actor n ok in
    let there = all_numbers-member setup past legal n (known_below setup past legal n (omega arith)) in
    let queued = filter-member (λ s. is (fate past s) Renamed) n (all_numbers past) there rule.fated in
    record {
      idle = no_open_job (job past actor) idle.1;
      waits = fate_at (fate past n) Renamed was;
      queued = member_any n (queue past) queued;
      fits = and_from (same_unit kind (op_unit (op_at past n))) (is_ready setup past n)
          (subst (λ o. holds_of (λ u. same_unit u (op_unit (op_at past n))) o ≡ true) of_kind rule.suited) rule.ready;
      oldest = subst (λ o. none_before setup past o n ≡ true) of_kind rule.oldest;
    }

-- ---- The step

pub entry_of_hart : (setup : Setup) (past : List Event) (e : Entry) → IsEntry (picture setup past) e
    → is_of past e.hart e.seq ≡ true
entry_of_hart setup past e is =
    ap (holds_of (λ f. f.hart == e.hart)) is.fetched
    ∙ (let same = is.hart in let own : (is.instruction.hart == e.hart) ≡ true = grind (arith, nat_tests) in own)

pub issuing : (setup : Setup) (past : List Event) → is_legal setup past → (actor : ℕ) (e : Entry)
    → IsEntry (picture setup past) e
    → refused setup past (Issue actor e.seq) ≡ None
    → IsIssuing (picture setup past) (picture setup (Issue actor e.seq ∷ past)) actor e
issuing setup past legal actor e is ok =
    record { entry = is; step = steps-Issue setup past legal actor e.seq ok e.hart (entry_of_hart setup past e is) }
