-- A core's issue: what it finds is allowed, the parts can make the step, the job is the actor's open one, and where it
-- finds nothing no issue is allowed.
use Rattle.std.specs.Prelude.{◌≡◌, ℕ, ◌<◌, ◌≤◌, ◌==◌, true, List, [], ◌∷◌, ◌++◌, length, reverse, Option, Some, None}
use Rattle.std.specs.Prelude.{slice_index_or, option_and_then, IfSome, IfNone}
use Rattle.std.proofs.Common.{◌∙◌, refl, sym, ap, subst, arith}
use Rattle.std.proofs.{lemmas.Bool.Decides.nat_tests, lemmas.Option.slice_get_past, lemmas.Option.slice_get_read}
use Rattle.numbers.specs.Sizes.{most_actors}
use Rattle.rv_instr.specs.declared.op.UnitKind.{UnitKind}
use Rattle.events.specs.{History.EventList, declared.event.Event.Event}
use Rattle.events.specs.declared.event.Event.TheVariants.{Fetch, Decode, Rename, Issue, Complete, Drop, Retire, Refetch}
use Rattle.exec_units.specs.Job.{JobView}
use Rattle.issue_queue.specs.{Entry.has_values, declared.entry.Entry.Entry}
use Rattle.events.specs.declared.role.Role.{Role}
use Rattle.smt_model.specs.{Asks.answers, Asks.AskIssue, Picture.Picture, Picture.picture}
use Rattle.smt_model.specs.{Rules.refused, Jobs.is_actor, Jobs.unit_of_actor, Setup.Setup, Setup.unit_of_role}
use Rattle.smt_laws.proofs.Fates.Choosing.{hart_there}
use Rattle.core_parts.specs.Agree.{PartsAgree, IsEntry, IsOpenJob, KeepsSizes, From}
use Rattle.core_state.specs.{Answers.AllowsNone, Answers.IsJobOf, State.IsCore, State.past_of, State.setup_in}
use Rattle.core_parts.specs.{declared.parts.Parts.Parts}
use Rattle.core_state.specs.{declared.state.State.TheInside.Inside}
use Rattle.core_steps.specs.Issuing.{CanIssue, IsIssuing, job_of, open_job_of}
use Rattle.core_state.specs.{State.view_of, View.CoreView}
use Rattle.smt_model.proofs.Allowed.{issue_allowed}
use Rattle.core_state.proofs.{Steps.Invariant.core_grown, Steps.Invariant.quiet_issue}
use Rattle.core_steps.proofs.{Steps.Issue.Next.ready_known}
use Rattle.core_state.proofs.{Steps.Invariant.past_push, Steps.NoAnswer.allows_none, Steps.NoAnswer.core_sizes}
use Rattle.core_steps.proofs.{Steps.Issue.Parts.job_issued}
use Rattle.core_state.proofs.Steps.Issue.Rules.{issue_may, issue_can, issue_unit, issuing, entry_of_hart}

-- ---- The actor's unit

pub role_unit : (setup : Setup) (actor : ℕ) (role : Role) → actor < length setup.roles
    → role ≡ slice_index_or setup.roles actor role
    → unit_of_actor setup actor ≡ unit_of_role role
role_unit setup actor role inside at =
    ap (option_and_then unit_of_role) (slice_get_read setup.roles (length setup.roles) actor role refl inside at)

pub no_role : (setup : Setup) (actor : ℕ) → length setup.roles ≤ actor → unit_of_actor setup actor ≡ None
no_role setup actor past = ap (option_and_then unit_of_role) (slice_get_past setup.roles actor past)

pub role_actor : (setup : Setup) (actor : ℕ) → actor < length setup.roles → is_actor setup actor ≡ true
role_actor setup actor inside = grind (arith, nat_tests)

-- The unit of the role that the code reads.
pub unit_now : (i : Inside) (actor k : ℕ) (roles : List Role) (role : Role) (unit : Option UnitKind)
    → roles ≡ i.config.roles.items → k ≡ actor
    → k < length roles → role ≡ slice_index_or roles k role → unit ≡ unit_of_role role
    → (is_actor (setup_in i) actor ≡ true) × (unit_of_actor (setup_in i) actor ≡ unit)
unit_now i actor k roles role unit same_roles same_actor inside at of_role =
    let within : actor < length i.config.roles.items =
    subst (λ a. a < length i.config.roles.items) same_actor (subst (λ rs. k < length rs) same_roles inside) in
    let here : role ≡ slice_index_or i.config.roles.items actor role =
    subst (λ a. role ≡ slice_index_or i.config.roles.items a role) same_actor
    (subst (λ rs. role ≡ slice_index_or rs k role) same_roles at) in
    (role_actor (setup_in i) actor within, role_unit (setup_in i) actor role within here ∙ sym of_role)

-- ---- What is found

-- What the parts find to issue can be issued in every picture with which they agree.
abbrev pub CanBeIssued : Parts → ℕ → UnitKind → Entry → Type 0
CanBeIssued x k kind e = (p : Picture) → PartsAgree p x → IsEntry p e × CanIssue p k kind e.seq

-- An actor that is a unit of a kind, and an entry that it can take up.
pub record Issues (i : Inside) (actor : ℕ) (kind : UnitKind) (e : Entry) : Type 0 where
  pub actor_is : is_actor (setup_in i) actor ≡ true
  pub unit : unit_of_actor (setup_in i) actor ≡ Some kind
  pub can : CanBeIssued i.parts actor kind e

pub issue_allowed_now : (i : Inside) (actor : ℕ) (kind : UnitKind) (e : Entry) → IsCore i → Issues i actor kind e
    → refused (setup_in i) (past_of i) (Issue actor e.seq) ≡ None
issue_allowed_now i actor kind e core issues =
    issue_may (setup_in i) (past_of i) actor e.seq kind issues.actor_is issues.unit
    (issues.can (picture (setup_in i) (past_of i)) core.agrees).1

-- One that may come next.
module _ (i : Inside) (core : IsCore i) (v : CoreView) (at : view_of i ≡ v) (actor : ℕ) (e : Entry)
    (ok : refused v.setup v.past (Issue actor e.seq) ≡ None) (entry : IsEntry (picture v.setup v.past) e) where
  allowed : refused (setup_in i) (past_of i) (Issue actor e.seq) ≡ None
  allowed = subst (λ u. refused u.setup u.past (Issue actor e.seq) ≡ None) (sym at) ok

  entry_now : IsEntry (picture (setup_in i) (past_of i)) e
  entry_now = subst (λ u. IsEntry (picture u.setup u.past) e) (sym at) entry

  pub issue_actor : actor < most_actors
  issue_actor =
      let is_one = (issue_allowed (setup_in i) (past_of i) actor e.seq allowed).actor_is in
      let few = (core_sizes i core).actors in
      grind (arith, nat_tests)

  pub issue_ready : has_values e ≡ true
  issue_ready =
      ready_known (picture (setup_in i) (past_of i)) e entry_now
      ∙ (issue_allowed (setup_in i) (past_of i) actor e.seq allowed).ready

  pub issue_step_of : IsIssuing (picture (setup_in i) (past_of i)) (picture (setup_in i) (Issue actor e.seq ∷ past_of i)) actor e
  issue_step_of = issuing (setup_in i) (past_of i) core.legal actor e entry_now allowed

  pub issue_starts : From i.parts e.hart (λ p q. IsIssuing p q actor e)
  issue_starts = record {
    before = picture (setup_in i) (past_of i);
    after = picture (setup_in i) (Issue actor e.seq ∷ past_of i);
    inside = subst (λ m. e.hart < m) (sym core.harts)
        (hart_there (setup_in i) (past_of i) core.legal e.hart e.seq
        (entry_of_hart (setup_in i) (past_of i) e entry_now));
    agrees = core.agrees;
    step = issue_step_of;
  }

  pub issue_core : (parts : Parts) (history : EventList)
      → ((p q : Picture) → PartsAgree p i.parts → IsIssuing p q actor e → PartsAgree q parts)
      → KeepsSizes i.parts parts
      → history ≡ record i.history { items = i.history.items ++ Issue actor e.seq ∷ [] }
      → IsCore (record i { parts = parts; history = history })
  issue_core parts history agrees sizes longer =
      core_grown i parts history (Issue actor e.seq) core
      (record {
        allowed = allowed;
        agrees = agrees (picture (setup_in i) (past_of i)) (picture (setup_in i) (Issue actor e.seq ∷ past_of i))
            core.agrees issue_step_of;
        sizes = sizes;
      }) (quiet_issue actor e.seq) longer

-- ---- The job

open_job_is : (setup : Setup) (past : List Event) (k : ℕ) (e : Entry) → IsOpenJob (picture setup past) k (open_job_of e)
    → IsJobOf setup past k (job_of e)
open_job_is setup past k e is = record {
  lent = is.lent;
  instruction = is.instruction;
  fetched = is.fetched;
  pc = sym is.pc;
  op = is.op;
  first = is.first;
  second = is.second;
}

module _ (i : Inside) (core : IsCore i) (v : CoreView) (at : view_of i ≡ v) (actor : ℕ) (e : Entry)
    (ok : refused v.setup v.past (Issue actor e.seq) ≡ None) (entry : IsEntry (picture v.setup v.past) e) where
  pub issue_job : (view : JobView) (items : List Event) → view ≡ job_of e
      → items ≡ i.history.items ++ Issue actor e.seq ∷ []
      → IsJobOf (setup_in i) (reverse items) actor view
  issue_job view items is longer =
      let setup = setup_in i in
      let lent : IsOpenJob (picture setup (Issue actor e.seq ∷ past_of i)) actor (open_job_of e) =
      job_issued (picture setup (past_of i)) (picture setup (Issue actor e.seq ∷ past_of i)) actor e
      (issue_step_of i core v at actor e ok entry) (issue_ready i core v at actor e ok entry) in
      let now : Issue actor e.seq ∷ past_of i ≡ reverse items =
      sym (ap reverse longer ∙ past_push i.history.items (Issue actor e.seq)) in
      subst (λ past. IsJobOf setup past actor view) now
      (subst (IsJobOf setup (Issue actor e.seq ∷ past_of i) actor) (sym is)
      (open_job_is setup (Issue actor e.seq ∷ past_of i) actor e lent))

-- ---- Where nothing is found

no_issue : (i : Inside) (actor : ℕ) → ((n : ℕ) → refused (setup_in i) (past_of i) (Issue actor n) ≡ None → ⊥)
    → (e : Event) → answers (AskIssue actor) (past_of i) e ≡ true → refused (setup_in i) (past_of i) e ≡ None → ⊥
no_issue i actor wrong (Fetch k g s pc word predicted) asked ok = absurd (grind arith)
no_issue i actor wrong (Decode k s) asked ok = absurd (grind arith)
no_issue i actor wrong (Rename k s taken) asked ok = absurd (grind arith)
no_issue i actor wrong (Issue k s) asked ok =
    let same : k ≡ actor = grind (arith, nat_tests) in
    wrong s (subst (λ a. refused (setup_in i) (past_of i) (Issue a s) ≡ None) same ok)
no_issue i actor wrong (Complete k s outcome) asked ok = absurd (grind arith)
no_issue i actor wrong (Drop k s) asked ok = absurd (grind arith)
no_issue i actor wrong (Retire k s effect) asked ok = absurd (grind arith)
no_issue i actor wrong (Refetch k s) asked ok = absurd (grind arith)

pub no_unit : (i : Inside) (actor : ℕ) → unit_of_actor (setup_in i) actor ≡ None
    → AllowsNone (setup_in i) (AskIssue actor) (past_of i)
no_unit i actor none =
    allows_none (setup_in i) (AskIssue actor) (past_of i) (no_issue i actor (λ n ok.
    let some = issue_unit (setup_in i) (past_of i) actor n ok in
    let both : None ≡ Some some.kind = sym none ∙ some.is in absurd cc))

pub nothing_to_issue : (i : Inside) (actor : ℕ) (kind : UnitKind) → IsCore i
    → unit_of_actor (setup_in i) actor ≡ Some kind
    → ((p : Picture) → PartsAgree p i.parts → (n : ℕ) → CanIssue p actor kind n → ⊥)
    → AllowsNone (setup_in i) (AskIssue actor) (past_of i)
nothing_to_issue i actor kind core unit none =
    allows_none (setup_in i) (AskIssue actor) (past_of i) (no_issue i actor (λ n ok.
    none (picture (setup_in i) (past_of i)) core.agrees n
    (issue_can (setup_in i) (past_of i) core.legal actor n kind unit ok)))

pub same_actor : (actor : ℕ) → (actor == actor) ≡ true
same_actor actor = grind (arith, nat_tests)

-- ---- The answer of the parts, whatever it is

module _ (i : Inside) (core : IsCore i) (v : CoreView) (at : view_of i ≡ v) (actor : ℕ) (kind : UnitKind)
    (actor_is : is_actor (setup_in i) actor ≡ true) (unit : unit_of_actor (setup_in i) actor ≡ Some kind) where
  pub next_allowed : (r : Option Entry) → IfSome r (CanBeIssued i.parts actor kind)
      → IfSome r (λ e. refused v.setup v.past (Issue actor e.seq) ≡ None)
  next_allowed None can = tt
  next_allowed (Some e) can =
      subst (λ u. refused u.setup u.past (Issue actor e.seq) ≡ None) at
      (issue_allowed_now i actor kind e core (record { actor_is = actor_is; unit = unit; can = can }))

  pub next_entry : (r : Option Entry) → IfSome r (CanBeIssued i.parts actor kind)
      → IfSome r (IsEntry (picture v.setup v.past))
  next_entry None can = tt
  next_entry (Some e) can =
      subst (λ u. IsEntry (picture u.setup u.past) e) at (can (picture (setup_in i) (past_of i)) core.agrees).0

  pub next_none : (r : Option Entry)
      → IfNone r ((p : Picture) → PartsAgree p i.parts → (n : ℕ) → CanIssue p actor kind n → ⊥)
      → IfNone r (AllowsNone v.setup (AskIssue actor) v.past)
  next_none (Some e) none = tt
  next_none None none =
      subst (λ u. AllowsNone u.setup (AskIssue actor) u.past) at (nothing_to_issue i actor kind core unit none)
