-- The state as a job is handed back: what its invariant says of the job, and the invariant after the event.
use Rattle.std.specs.Prelude.{◌≡◌, ℕ, ◌+◌, ◌*◌, ◌<◌, ◌≤◌, ◌==◌, ◌&&◌, nat_le, true, false, [], ◌∷◌, ◌++◌, length, Some}
use Rattle.std.specs.Prelude.{None, slice_index_or}
use Rattle.std.specs.List.{list_any}
use Rattle.std.proofs.Common.{◌∙◌, sym, ap, subst, arith}
use Rattle.std.proofs.lemmas.Bool.Decides.{nat_tests}
use Rattle.numbers.specs.Sizes.{most_actors, most_events, most_extra, most_harts, most_registers}
use Rattle.events.specs.{History.EventList, declared.effect.Outcome.Outcome, declared.event.Event.TheVariants.Complete}
use Rattle.events.specs.{declared.event.Event.TheVariants.Drop}
use Rattle.exec_units.specs.Job.{JobView, outcome_of_job}
use Rattle.load_store.specs.{Looks.seen, Queues.queues_of}
use Rattle.retire_squash.specs.declared.active.Active.{Active}
use Rattle.smt_model.specs.{Bytes.read, Exec.Computed, Faults.checked, Outcomes.outcome_of}
use Rattle.numbers.specs.Sizes.{are_core_sizes}
use Rattle.smt_model.specs.{Basics.holds_of, Setup.registers_of, Fates.is_of, Picture.Picture}
use Rattle.smt_model.specs.{Picture.picture, Rules.refused, Steps.IsDrop}
use Rattle.smt_laws.proofs.{Fates.Choosing.hart_there, Steps.Drop.steps-Drop}
use Rattle.core_parts.specs.Agree.{PartsAgree, KeepsSizes, From, IsActive, IsOpenJob}
use Rattle.core_state.specs.{Answers.IsJobOf, Answers.IsStrange, View.CoreView}
use Rattle.core_steps.specs.{Complete.IsSameJob, Complete.IsFinish}
use Rattle.core_parts.specs.{declared.parts.Parts.Parts, declared.slot.OpenJob.OpenJob}
use Rattle.core_state.specs.{declared.state.State.TheInside.Inside}
use Rattle.core_state.specs.State.{IsCore, past_of, setup_in, view_of}
use Rattle.core_state.proofs.{Steps.Invariant.core_grown, Steps.Invariant.quiet_complete, Steps.Invariant.quiet_drop}
use Rattle.core_state.proofs.{Steps.Complete.Rules.finishes, Steps.Complete.Rules.may_complete}
use Rattle.core_parts.proofs.{Agreement.Queues.has_place}
use Rattle.core_state.proofs.{Steps.Complete.Rules.may_drop}
use Rattle.core_state.proofs.{Steps.Complete.Memory.says_now}
use Rattle.core_state.proofs.Steps.Complete.Job.{open_job, is_job, stranger, job_hart_there, job_squashed}

-- ---- The sizes

few_actors : (harts extra queue actors limit : ℕ)
    → (are_core_sizes harts extra queue actors && nat_le limit most_events) ≡ true → actors ≤ most_actors
few_actors harts extra queue actors limit ok = grind (arith, nat_tests)

pub few_registers : (harts extra queue actors limit : ℕ)
    → (are_core_sizes harts extra queue actors && nat_le limit most_events) ≡ true
    → 31 * harts + extra ≤ most_registers
few_registers harts extra queue actors limit ok =
    let h : harts ≤ most_harts = grind (arith, nat_tests) in
    let e : extra ≤ most_extra = grind (arith, nat_tests) in
    omega arith

module _ (i : Inside) (core : IsCore i) where
  actors : length (setup_in i).roles ≤ most_actors
  actors =
      few_actors i.config.harts i.config.extra i.config.queue (length i.config.roles.items) i.history.limit core.sizes

  pub registers : registers_of (setup_in i) ≤ most_registers
  registers = few_registers i.config.harts i.config.extra i.config.queue
      (length i.config.roles.items) i.history.limit core.sizes

  -- ---- The job, in the words of the parts
  pub core_job : (k : ℕ) (x : OpenJob) → slice_index_or i.parts.jobs k None ≡ Some x
      → IsOpenJob (picture (setup_in i) (past_of i)) k x
  core_job k x at = open_job (picture (setup_in i) (past_of i)) i.parts.jobs k x core.agrees.actors core.agrees.jobs at

  pub core_job_hart : (k : ℕ) (x : OpenJob) → slice_index_or i.parts.jobs k None ≡ Some x
      → x.hart < length i.parts.harts.items
  core_job_hart k x at =
      let under = job_hart_there (setup_in i) (past_of i) core.legal k x (core_job k x at) in
      subst (λ n. x.hart < n) (sym core.harts) under

  pub core_job_place : (k : ℕ) (x : OpenJob) → slice_index_or i.parts.jobs k None ≡ Some x
      → x.hart < length i.parts.accesses
  core_job_place k x at =
      has_place i.parts.harts.items i.parts.accesses x.hart core.agrees.accesses (core_job_hart k x at)

  module _ (v : CoreView) (is : view_of i ≡ v) where
    pub core_is_job : (k : ℕ) (x : OpenJob) (view : JobView) → slice_index_or i.parts.jobs k None ≡ Some x
        → IsSameJob x view
        → IsJobOf v.setup v.past k view
    core_is_job k x view at same =
        subst (λ u. IsJobOf u.setup u.past k view) is (is_job (setup_in i) (past_of i) k x view (core_job k x at) same)

    pub core_stranger : (k : ℕ) (view : JobView)
        → ((y : OpenJob) → slice_index_or i.parts.jobs k None ≡ Some y → IsSameJob y view → ⊥)
        → IsStrange v.setup v.past k view
    core_stranger k view other =
        subst (λ u. IsStrange u.setup u.past k view) is
        (stranger (setup_in i) (past_of i) core.legal actors i.parts.jobs k view core.agrees.jobs other)

    -- What the parts make of what a unit handed back, o of w, completes the instruction.
    pub core_completes : (k : ℕ) (x : OpenJob) (view : JobView) (a : Active) (w o : Outcome)
        → slice_index_or i.parts.jobs k None ≡ Some x → IsSameJob x view → w ≡ outcome_of_job view
        → ((c : Computed) → w ≡ outcome_of x.op c None
        → o ≡ outcome_of x.op (checked i.parts.memory.image x.op c)
        (Some (read x.op (seen x.seq (queues_of i.parts.accesses x.hart).stores i.parts.memory) c.addr)))
        → ((p : Picture) → PartsAgree p i.parts → IsActive p x.hart a × (a.seq ≡ x.seq))
        → refused v.setup v.past (Complete k a.seq o) ≡ None
    core_completes k x view a w o at same worked says found =
        let here = found (picture (setup_in i) (past_of i)) core.agrees in
        let now = says_now (setup_in i) (past_of i) i.parts core.agrees core.image k x view o (core_job k x at) same
        (core_job_hart k x at) (λ c is_of. says c (worked ∙ is_of)) in
        subst (λ u. refused u.setup u.past (Complete k a.seq o) ≡ None) is
        (may_complete (setup_in i) (past_of i) core.legal k x x.hart a o (core_job k x at) now here.0 here.1)

    pub core_active : (x : OpenJob) (a : Active)
        → ((p : Picture) → PartsAgree p i.parts → IsActive p x.hart a × (a.seq ≡ x.seq))
        → IsActive (picture v.setup v.past) x.hart a
    core_active x a found = subst (λ u. IsActive (picture u.setup u.past) x.hart a) is
        (found (picture (setup_in i) (past_of i)) core.agrees).0

    pub core_drops : (k : ℕ) (x : OpenJob) → slice_index_or i.parts.jobs k None ≡ Some x
        → ((p : Picture) → PartsAgree p i.parts → list_any (λ s. s == x.seq) (p.flight x.hart) ≡ false)
        → refused v.setup v.past (Drop k x.seq) ≡ None
    core_drops k x at gone =
        let opened = core_job k x at in
        let squashed = job_squashed (setup_in i) (past_of i) core.legal k x opened
        (gone (picture (setup_in i) (past_of i)) core.agrees) in
        subst (λ u. refused u.setup u.past (Drop k x.seq) ≡ None) is
        (may_drop (setup_in i) (past_of i) core.legal k x opened squashed)

    -- ---- The completion
    module _ (h k : ℕ) (a : Active) (o : Outcome) (active : IsActive (picture v.setup v.past) h a)
        (ok : refused v.setup v.past (Complete k a.seq o) ≡ None) where
      allowed : refused (setup_in i) (past_of i) (Complete k a.seq o) ≡ None
      allowed = subst (λ u. refused u.setup u.past (Complete k a.seq o) ≡ None) (sym is) ok

      member_now : IsActive (picture (setup_in i) (past_of i)) h a
      member_now = subst (λ u. IsActive (picture u.setup u.past) h a) (sym is) active

      step : IsFinish (picture (setup_in i) (past_of i)) (picture (setup_in i) (Complete k a.seq o ∷ past_of i)) h k a o
      step = finishes (setup_in i) (past_of i) core.legal registers h k a o member_now allowed

      of_hart : is_of (past_of i) h a.seq ≡ true
      of_hart = ap (holds_of (λ f. f.hart == h)) member_now.fetched ∙ (grind (arith, nat_tests))

      pub finish_from : From i.parts h (λ p q. IsFinish p q h k a o)
      finish_from = record {
        before = picture (setup_in i) (past_of i);
        after = picture (setup_in i) (Complete k a.seq o ∷ past_of i);
        inside = subst (λ n. h < n) (sym core.harts) (hart_there (setup_in i) (past_of i) core.legal h a.seq of_hart);
        agrees = core.agrees;
        step = step;
      }

      pub finish_core : (parts : Parts) (history : EventList)
          → ((p q : Picture) → PartsAgree p i.parts → IsFinish p q h k a o → PartsAgree q parts)
          → KeepsSizes i.parts parts
          → history ≡ record i.history { items = i.history.items ++ Complete k a.seq o ∷ [] }
          → IsCore (record i { parts = parts; history = history })
      finish_core parts history agrees sizes longer =
          core_grown i parts history (Complete k a.seq o) core
          (record {
            allowed = allowed;
            agrees = agrees (picture (setup_in i) (past_of i)) (picture (setup_in i) (Complete k a.seq o ∷ past_of i))
                core.agrees step;
            sizes = sizes;
          }) (quiet_complete k a.seq o) longer

    -- ---- The drop
    pub drop_core : (k s : ℕ) (parts : Parts) (history : EventList) → refused v.setup v.past (Drop k s) ≡ None
        → ((p q : Picture) (n : ℕ) → PartsAgree p i.parts → IsDrop p q n k → PartsAgree q parts)
        → KeepsSizes i.parts parts
        → history ≡ record i.history { items = i.history.items ++ Drop k s ∷ [] }
        → IsCore (record i { parts = parts; history = history })
    drop_core k s parts history ok agrees sizes longer =
        let now = subst (λ u. refused u.setup u.past (Drop k s) ≡ None) (sym is) ok in
        core_grown i parts history (Drop k s) core (record {
          allowed = now;
          agrees = agrees (picture (setup_in i) (past_of i)) (picture (setup_in i) (Drop k s ∷ past_of i)) s core.agrees
              (steps-Drop (setup_in i) (past_of i) core.legal k s now);
          sizes = sizes;
        }) (quiet_drop k s) longer
