-- A step of a unit: an issue, a completion.
use Rattle.std.specs.Prelude.{◌≡◌, ℕ, ◌<◌, ◌≤◌, Bool, true, false, not, ◌==◌, ◌&&◌, nat_lt, List, [], ◌∷◌, filter}
use Rattle.std.specs.Prelude.{if◌then◌else◌, Option, Some, None, is_some, is_none}
use Rattle.std.specs.List.{list_all, list_any}
use Rattle.std.proofs.Common.{◌∙◌, refl, sym, ap, subst, inl, inr, arith}
use Rattle.std.proofs.{lemmas.Bool.cases_Bool, lemmas.Bool.cases_lt, lemmas.Bool.and_parts, lemmas.Bool.and_from}
use Rattle.std.proofs.{lemmas.Bool.Decides.nat_tests}
use Rattle.rv_instr.specs.{Registers.op_unit, declared.op.UnitKind.UnitKind}
use Rattle.events.specs.{declared.effect.Outcome.Outcome, declared.effect.Next.Next}
use Rattle.events.specs.declared.effect.Next.TheVariants.{Pc, Ended, Stopped}
use Rattle.events.specs.declared.event.Event.{Event}
use Rattle.events.specs.declared.event.Event.TheVariants.{Fetch, Decode, Rename, Issue, Complete, Drop, Retire, Refetch}
use Rattle.smt_model.specs.{Asks.AskIssue, Asks.AskComplete, Asks.answers, Setup.Setup, Jobs.is_actor}
use Rattle.smt_model.specs.{Jobs.unit_of_actor, Jobs.job, Kinds.same_unit, Registers.is_ready}
use Rattle.smt_model.specs.Basics.{first, holds_of, same_number}
use Rattle.smt_model.specs.Comparisons.{same_outcome, same_next}
use Rattle.smt_model.specs.Fates.{fate, is, op_at, stage, Renamed, Squashed}
use Rattle.smt_model.specs.Flights.{all_numbers, queue}
use Rattle.smt_model.specs.Rules.{refused, is_legal, is_for, is_oldest_ready, outcome_now}
use Rattle.smt_model.proofs.Allowed.{issue_allowed, issue_allows, complete_allowed, complete_allows, drop_allowed}
use Rattle.smt_model.proofs.Allowed.{drop_allows}
use Rattle.smt_model.proofs.Lists.{member, member-filter, filter-member, first-member, first-least, Rises-filter}
use Rattle.smt_model.proofs.Fates.Moves.{same_number-is, same_number-self, issue_was}
use Rattle.smt_model.proofs.Fates.Numbers.{all_numbers-member, all_numbers-rise, known_below, known_fetched}
use Rattle.smt_model.proofs.Fates.Sound.{sound}
use Rattle.reasons.specs.Reasons.{named, first_named, no_unit, has_job, is_of_kind, unready, oldest_waits}
use Rattle.reasons.specs.Reasons.{issue_reasons, complete_reasons}
use Rattle.reasons.specs.{declared.reason.Reason.Reason, Exact.MayCome}
use Rattle.reasons.specs.declared.reason.Reason.TheVariants as reason
use Rattle.reasons.proofs.Naming.{none_named, named_none, unnamed, fails, not_false, not_true, first_there}
use Rattle.reasons.proofs.Naming.{all_from, any_passes, any_from}

same_self : (n : ℕ) → (n == n) ≡ true
same_self n = grind (arith, nat_tests)

-- ---- An issue

abbrev suited : Setup → List Event → UnitKind → ℕ → Bool
suited setup past kind s = is_of_kind past kind s && is_ready setup past s

-- The oldest of those that wait and are ready for a unit.
record IsOldest (setup : Setup) (past : List Event) (kind : UnitKind) : Type 0 where
  number : ℕ
  queued : member number (queue past) ≡ true
  fits : suited setup past kind number ≡ true
  oldest : list_all (λ t. not (nat_lt t number && suited setup past kind t)) (queue past) ≡ true

none_below : (n t : ℕ) (fit : Bool) → (fit ≡ true → n ≤ t) → not (nat_lt t n && fit) ≡ true
none_below n t true above = let over : n ≤ t = above refl in grind (arith, nat_tests)
none_below n t false above = grind (arith, nat_tests)

oldest_suited : (setup : Setup) (past : List Event) → is_legal setup past → (kind : UnitKind)
    → list_any (suited setup past kind) (queue past) ≡ true → IsOldest setup past kind
oldest_suited setup past legal kind some =
    let test = suited setup past kind in
    let one = any_passes test (queue past) some in
    let found = first_there (filter test (queue past)) one.number
    (filter-member test one.number (queue past) one.there one.passed) in
    let n = found.number in
    let both = member-filter test n (queue past) (first-member (filter test (queue past)) n found.is) in
    let rises = Rises-filter test (queue past)
    (Rises-filter (λ s. is (fate past s) Renamed) (all_numbers past) (all_numbers-rise setup past legal)) in
    record {
      number = n;
      queued = both.0;
      fits = both.1;
      oldest = all_from (λ t. not (nat_lt t n && test t)) (queue past) (λ t m.
          none_below n t (test t) (λ fit.
          first-least (filter test (queue past)) n rises found.is t (filter-member test t (queue past) m fit)));
    }

no_job : (k : ℕ) (o : Option ℕ) → has_job k o ≡ None → is_none o ≡ true
no_job k None none = refl
no_job k (Some s) none = absurd (grind arith)

record IsUnit (setup : Setup) (k : ℕ) : Type 0 where
  kind : UnitKind
  is : unit_of_actor setup k ≡ Some kind

some_unit : (setup : Setup) (k : ℕ) (o : Option UnitKind) → unit_of_actor setup k ≡ o → is_none o ≡ false
    → IsUnit setup k
some_unit setup k None at some = absurd (grind arith)
some_unit setup k (Some kind) at some = record { kind = kind; is = at }

ready_one : (setup : Setup) (past : List Event) (kind : UnitKind) → unready setup past (Some kind) ≡ None
    → list_any (suited setup past kind) (queue past) ≡ true
ready_one setup past kind none =
    elim (cases_Bool (list_any (suited setup past kind) (queue past))) [
      | inl some ↦ some
      | inr wrong ↦
          let named_one : unready setup past (Some kind)
          ≡ Some (oldest_waits setup past kind (first (filter (is_of_kind past kind) (queue past)))) = rw wrong refl in
          let both = sym named_one ∙ none in
          absurd (grind arith)
    ]

for_kind : (setup : Setup) (past : List Event) (k s : ℕ) (kind : UnitKind) → unit_of_actor setup k ≡ Some kind
    → is_for setup past k s ≡ is_of_kind past kind s
for_kind setup past k s kind at = ap (holds_of (λ u. same_unit u (op_unit (op_at past s)))) at

oldest_for : (setup : Setup) (past : List Event) (k n : ℕ) (kind : UnitKind) → unit_of_actor setup k ≡ Some kind
    → is_oldest_ready setup past k n
    ≡ list_all (λ t. not (nat_lt t n && suited setup past kind t)) (queue past)
oldest_for setup past k n kind at =
    ap (λ o. list_all
    (λ t. not (nat_lt t n && (holds_of (λ u. same_unit u (op_unit (op_at past t))) o && is_ready setup past t)))
    (queue past)) at

issue_of : (setup : Setup) (past : List Event) (k : ℕ) (kind : UnitKind) → is_actor setup k ≡ true
    → unit_of_actor setup k ≡ Some kind → is_none (job past k) ≡ true → IsOldest setup past kind
    → MayCome setup past (AskIssue k)
issue_of setup past k kind is_one at idle one =
    let n = one.number in
    let fit = and_parts (is_of_kind past kind n) (is_ready setup past n) one.fits in
    let waits = (member-filter (λ s. is (fate past s) Renamed) n (all_numbers past) one.queued).1 in
    record {
      event = Issue k n;
      answer = same_self k;
      allowed = issue_allows setup past k n (record {
        actor_is = is_one;
        idle = and_from (is_some (unit_of_actor setup k)) (is_none (job past k)) (ap is_some at) idle;
        fated = waits;
        suited = for_kind setup past k n kind at ∙ fit.0;
        ready = fit.1;
        oldest = oldest_for setup past k n kind at ∙ one.oldest;
      });
    }

pub issue_may : (setup : Setup) (past : List Event) → is_legal setup past → (k : ℕ)
    → first_named (issue_reasons setup past k) ≡ None → MayCome setup past (AskIssue k)
issue_may setup past legal k none =
    let each = named_none (issue_reasons setup past k) none in
    let is_one = not_true (is_actor setup k) (fails (not (is_actor setup k)) (reason.NoActor k) each.0) in
    let unit = some_unit setup k (unit_of_actor setup k) refl
    (fails (is_none (unit_of_actor setup k)) (reason.NoUnit k) each.1.0) in
    let some : unready setup past (Some unit.kind) ≡ None =
    subst (λ o. unready setup past o ≡ None) unit.is each.1.1.1.0 in
    issue_of setup past k unit.kind is_one unit.is (no_job k (job past k) each.1.1.0)
    (oldest_suited setup past legal unit.kind (ready_one setup past unit.kind some))

-- Where one may be issued, none is named.
no_job_is : (k : ℕ) (o : Option ℕ) → is_none o ≡ true → has_job k o ≡ None
no_job_is k None none = refl
no_job_is k (Some s) none = absurd (grind arith)

is_unit : (setup : Setup) (k : ℕ) (o : Option UnitKind) → unit_of_actor setup k ≡ o → is_some o ≡ true
    → IsUnit setup k
is_unit setup k None at some = absurd (grind arith)
is_unit setup k (Some kind) at some = record { kind = kind; is = at }

issue_none : (setup : Setup) (past : List Event) → is_legal setup past → (k s : ℕ)
    → refused setup past (Issue k s) ≡ None → first_named (issue_reasons setup past k) ≡ None
issue_none setup past legal k s ok =
    let rule = issue_allowed setup past k s ok in
    let idle = and_parts (is_some (unit_of_actor setup k)) (is_none (job past k)) rule.idle in
    let unit = is_unit setup k (unit_of_actor setup k) refl idle.0 in
    let kind = unit.kind in
    let was = issue_was setup past k s ok in
    let there = all_numbers-member setup past legal s (known_below setup past legal s (omega arith)) in
    let queued = filter-member (λ t. is (fate past t) Renamed) s (all_numbers past) there rule.fated in
    let fit = and_from (is_of_kind past kind s) (is_ready setup past s)
    (sym (for_kind setup past k s kind unit.is) ∙ rule.suited) rule.ready in
    let some = any_from (suited setup past kind) (queue past) s queued fit in
    let ready : unready setup past (Some kind) ≡ None = rw some refl in
    none_named (issue_reasons setup past k) (
      unnamed (not (is_actor setup k)) (reason.NoActor k) (not_false (is_actor setup k) rule.actor_is),
      (
        unnamed (is_none (unit_of_actor setup k)) (reason.NoUnit k) (ap is_none unit.is),
        (
          no_job_is k (job past k) idle.1,
          (ap (unready setup past) unit.is ∙ ready, tt),
        ),
      ),
    )

pub issue_by : (setup : Setup) (past : List Event) → is_legal setup past → (k : ℕ) (e : Event)
    → answers (AskIssue k) past e ≡ true → refused setup past e ≡ None
    → first_named (issue_reasons setup past k) ≡ None
issue_by setup past legal k (Issue actor s) asked ok =
    let same : actor ≡ k = grind (arith, nat_tests) in
    subst (λ j. first_named (issue_reasons setup past j) ≡ None) same (issue_none setup past legal actor s ok)
issue_by setup past legal k (Fetch actor hart s pc word predicted) asked ok = absurd (grind arith)
issue_by setup past legal k (Decode actor s) asked ok = absurd (grind arith)
issue_by setup past legal k (Rename actor s phys) asked ok = absurd (grind arith)
issue_by setup past legal k (Complete actor s outcome) asked ok = absurd (grind arith)
issue_by setup past legal k (Drop actor s) asked ok = absurd (grind arith)
issue_by setup past legal k (Retire actor s effect) asked ok = absurd (grind arith)
issue_by setup past legal k (Refetch actor s) asked ok = absurd (grind arith)

-- ---- A completion

same_next-self : (n : Next) → same_next n n ≡ true
same_next-self (Pc pc) = grind (arith, nat_tests)
same_next-self (Ended number) = grind (arith, nat_tests)
same_next-self (Stopped cause) = grind (arith, nat_tests)

same_outcome-self : (o : Outcome) → same_outcome o o ≡ true
same_outcome-self o =
    rw (
      same_number-self o.value,
      same_next-self o.next,
      same_number-self o.addr,
      same_number-self o.datum,
      same_number-self o.out,
    ) refl

record HasOpen (past : List Event) (k : ℕ) : Type 0 where
  number : ℕ
  is : job past k ≡ Some number

some_job : (past : List Event) (k : ℕ) (o : Option ℕ) → job past k ≡ o → is_none o ≡ false → HasOpen past k
some_job past k None at some = absurd (grind arith)
some_job past k (Some s) at some = record { number = s; is = at }

complete_of : (setup : Setup) (past : List Event) → is_legal setup past → (k s : ℕ) → is_actor setup k ≡ true
    → job past k ≡ Some s → MayCome setup past (AskComplete k)
complete_of setup past legal k s is_one at =
    let lent : same_number (job past k) (Some s) ≡ true =
    ap (λ o. same_number o (Some s)) at ∙ same_number-self (Some s) in
    elim (cases_Bool (is (fate past s) Squashed)) [
      | inl gone ↦ record {
        event = Drop k s;
        answer = same_self k;
        allowed = drop_allows setup past k s (record { actor_is = is_one; lent = lent; fated = gone });
      }
      | inr spared ↦
          let open_one = (sound setup past legal).jobs k s at in
          let found = known_fetched setup past legal s (grind (arith, nat_tests)) in
          let o = outcome_now setup past s found.fetch in
          record {
            event = Complete k s o;
            answer = same_self k;
            allowed = complete_allows setup past k s o (record {
              actor_is = is_one;
              lent = lent;
              spared = ap not spared;
              outcome_is = ap (holds_of (λ g. same_outcome o (outcome_now setup past s g))) found.fetched
                  ∙ same_outcome-self o;
            });
          }
    ]

pub complete_may : (setup : Setup) (past : List Event) → is_legal setup past → (k : ℕ)
    → first_named (complete_reasons setup past k) ≡ None → MayCome setup past (AskComplete k)
complete_may setup past legal k none =
    let each = named_none (complete_reasons setup past k) none in
    let is_one = not_true (is_actor setup k) (fails (not (is_actor setup k)) (reason.NoActor k) each.0) in
    let lent = some_job past k (job past k) refl
    (fails (is_none (job past k)) (reason.HasNoJob k) each.1.1.0) in
    complete_of setup past legal k lent.number is_one lent.is

-- Who has a job is a unit.
is_none_of : {A : Type 0} → (o : Option A) → is_some o ≡ true → is_none o ≡ false
is_none_of None some = absurd (grind arith)
is_none_of (Some x) some = refl

unit_if : (setup : Setup) (k s : ℕ) (mine : Bool) (before : Option ℕ)
    → (mine ≡ true → is_none (unit_of_actor setup k) ≡ false)
    → (before ≡ Some s → is_none (unit_of_actor setup k) ≡ false)
    → (n : ℕ) → (if mine then Some n else before) ≡ Some s → is_none (unit_of_actor setup k) ≡ false
unit_if setup k s true before own later n at = own refl
unit_if setup k s false before own later n at = later at

unit_still : (setup : Setup) (k s : ℕ) (mine : Bool) (before : Option ℕ)
    → (before ≡ Some s → is_none (unit_of_actor setup k) ≡ false)
    → (if mine then None else before) ≡ Some s → is_none (unit_of_actor setup k) ≡ false
unit_still setup k s true before later at = absurd (grind arith)
unit_still setup k s false before later at = later at

issuer : (setup : Setup) (past : List Event) (actor n k : ℕ) → refused setup past (Issue actor n) ≡ None
    → (actor == k) ≡ true → is_none (unit_of_actor setup k) ≡ false
issuer setup past actor n k ok mine =
    let same : actor ≡ k = grind (arith, nat_tests) in
    let idle = and_parts (is_some (unit_of_actor setup actor)) (is_none (job past actor))
    (issue_allowed setup past actor n ok).idle in
    subst (λ j. is_none (unit_of_actor setup j) ≡ false) same (is_none_of (unit_of_actor setup actor) idle.0)

unit_has : (setup : Setup) (past : List Event) → is_legal setup past → (k s : ℕ) → job past k ≡ Some s
    → is_none (unit_of_actor setup k) ≡ false
unit_has setup [] legal k s at = absurd (grind arith)
unit_has setup (Fetch actor hart n pc word predicted ∷ past) legal k s at = unit_has setup past legal.1 k s at
unit_has setup (Decode actor n ∷ past) legal k s at = unit_has setup past legal.1 k s at
unit_has setup (Rename actor n phys ∷ past) legal k s at = unit_has setup past legal.1 k s at
unit_has setup (Issue actor n ∷ past) legal k s at =
    unit_if setup k s (actor == k) (job past k) (issuer setup past actor n k legal.0)
    (unit_has setup past legal.1 k s) n at
unit_has setup (Complete actor n outcome ∷ past) legal k s at =
    unit_still setup k s (actor == k) (job past k) (unit_has setup past legal.1 k s) at
unit_has setup (Drop actor n ∷ past) legal k s at =
    unit_still setup k s (actor == k) (job past k) (unit_has setup past legal.1 k s) at
unit_has setup (Retire actor n effect ∷ past) legal k s at = unit_has setup past legal.1 k s at
unit_has setup (Refetch actor n ∷ past) legal k s at = unit_has setup past legal.1 k s at

complete_none : (setup : Setup) (past : List Event) → is_legal setup past → (k s : ℕ) → is_actor setup k ≡ true
    → same_number (job past k) (Some s) ≡ true → first_named (complete_reasons setup past k) ≡ None
complete_none setup past legal k s is_one lent =
    let at = same_number-is (job past k) (Some s) lent in
    none_named (complete_reasons setup past k) (
      unnamed (not (is_actor setup k)) (reason.NoActor k) (not_false (is_actor setup k) is_one),
      (
        unnamed (is_none (unit_of_actor setup k)) (reason.NoUnit k) (unit_has setup past legal k s at),
        (unnamed (is_none (job past k)) (reason.HasNoJob k) (ap is_none at), tt),
      ),
    )

pub complete_by : (setup : Setup) (past : List Event) → is_legal setup past → (k : ℕ) (e : Event)
    → answers (AskComplete k) past e ≡ true → refused setup past e ≡ None
    → first_named (complete_reasons setup past k) ≡ None
complete_by setup past legal k (Complete actor s outcome) asked ok =
    let same : actor ≡ k = grind (arith, nat_tests) in
    let rule = complete_allowed setup past actor s outcome ok in
    subst (λ j. first_named (complete_reasons setup past j) ≡ None) same
    (complete_none setup past legal actor s rule.actor_is rule.lent)
complete_by setup past legal k (Drop actor s) asked ok =
    let same : actor ≡ k = grind (arith, nat_tests) in
    let rule = drop_allowed setup past actor s ok in
    subst (λ j. first_named (complete_reasons setup past j) ≡ None) same
    (complete_none setup past legal actor s rule.actor_is rule.lent)
complete_by setup past legal k (Fetch actor hart s pc word predicted) asked ok = absurd (grind arith)
complete_by setup past legal k (Decode actor s) asked ok = absurd (grind arith)
complete_by setup past legal k (Rename actor s phys) asked ok = absurd (grind arith)
complete_by setup past legal k (Issue actor s) asked ok = absurd (grind arith)
complete_by setup past legal k (Retire actor s effect) asked ok = absurd (grind arith)
complete_by setup past legal k (Refetch actor s) asked ok = absurd (grind arith)
