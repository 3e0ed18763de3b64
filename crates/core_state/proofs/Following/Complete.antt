-- Which rule a completion or a drop breaks.
use Rattle.std.specs.Prelude.{◌≡◌, ℕ, ◌<◌, ◌==◌, Bool, true, false, not, List, [], ◌∷◌, length, Option, Some, None}
use Rattle.std.specs.Prelude.{is_some, is_none, IfSome, IfNone}
use Rattle.std.specs.List.{list_any}
use Rattle.std.proofs.Common.{◌∙◌, refl, sym, ap, subst, arith}
use Rattle.std.proofs.{lemmas.Bool.false≢true, lemmas.Bool.Decides.nat_tests}
use Rattle.events.specs.{declared.effect.Outcome.Outcome, declared.event.Event.Event}
use Rattle.events.specs.declared.event.Event.TheVariants.{Complete, Drop}
use Rattle.exec_units.specs.Job.{outcome_of_job}
use Rattle.load_store.specs.{Looks.seen, Queues.queues_of}
use Rattle.retire_squash.specs.declared.active.Active.{Active}
use Rattle.smt_model.specs.{Basics.holds_of, Basics.same_number, Bytes.read, Comparisons.same_outcome}
use Rattle.smt_model.specs.{Exec.Computed, Faults.checked, Outcomes.outcome_of, Picture.Picture, Picture.picture}
use Rattle.smt_model.specs.{Jobs.is_actor, Jobs.job, Setup.Setup}
use Rattle.smt_model.specs.Fates.{Fate, fate, fetching, is, is_in_flight, is_of, Squashed}
use Rattle.smt_model.specs.Rules.{first_failing, refused, of_fetched, outcome_now}
use Rattle.core_parts.specs.{Agree.IsActive, Agree.PartsAgree, Place.InActiveList}
use Rattle.core_steps.specs.{Complete.IsSameJob}
use Rattle.core_state.specs.{Refusals.IsJobWith, Refusals.open_view}
use Rattle.core_state.specs.{State.IsCore, State.view_of, View.CoreView}
use Rattle.core_parts.specs.{declared.slot.OpenJob.OpenJob}
use Rattle.core_state.specs.{declared.state.State.TheInside.Inside}
use Rattle.core_parts.proofs.{Agreement.Harts.stage_flies}
use Rattle.core_state.proofs.{Following.Place.parts_agree, Following.Place.is_legal_view}
use Rattle.core_state.proofs.Following.Tests.{refused-is, holds, fails}
use Rattle.core_state.proofs.Steps.Complete.{Job.job_hart, Job.job_hart_there, Job.job_squashed, Memory.says_now}

-- ---- The rules

module _ (setup : Setup) (past : List Event) (actor s : ℕ) where
  abbrev lent : Bool
  lent = same_number (job past actor) (Some s)

  module _ (outcome : Outcome) where
    abbrev says : Bool
    says = of_fetched past s (λ f. same_outcome outcome (outcome_now setup past s f))

    abbrev behind_job : List (ℕ × Bool)
    behind_job = (3, not (is (fate past s) Squashed)) ∷ (4, says) ∷ []

    abbrev behind_actor : List (ℕ × Bool)
    behind_actor = (2, lent) ∷ behind_job

    pub no_actor : is_actor setup actor ≡ false → refused setup past (Complete actor s outcome) ≡ Some 1
    no_actor none = refused-is setup past (Complete actor s outcome) ∙ fails 1 (is_actor setup actor) behind_actor none

    pub no_job : is_actor setup actor ≡ true → lent ≡ false → refused setup past (Complete actor s outcome) ≡ Some 2
    no_job one none =
        refused-is setup past (Complete actor s outcome)
        ∙ (holds 1 (is_actor setup actor) behind_actor one ∙ fails 2 lent behind_job none)

    pub squashed : is_actor setup actor ≡ true → lent ≡ true → is (fate past s) Squashed ≡ true
        → refused setup past (Complete actor s outcome) ≡ Some 3
    squashed one its gone =
        refused-is setup past (Complete actor s outcome)
        ∙ (holds 1 (is_actor setup actor) behind_actor one
        ∙ (holds 2 lent behind_job its ∙ fails 3 (not (is (fate past s) Squashed)) ((4, says) ∷ []) (rw gone refl)))

    pub tells : (b : Bool) → is_actor setup actor ≡ true → lent ≡ true → is (fate past s) Squashed ≡ false → says ≡ b
        → refused setup past (Complete actor s outcome) ≡ first_failing ((4, b) ∷ [])
    tells b one its spared is_it =
        refused-is setup past (Complete actor s outcome)
        ∙ (holds 1 (is_actor setup actor) behind_actor one
        ∙ (holds 2 lent behind_job its
        ∙ (holds 3 (not (is (fate past s) Squashed)) ((4, says) ∷ []) (rw spared refl) ∙ rw is_it refl)))

  abbrev drop_behind_job : List (ℕ × Bool)
  drop_behind_job = (3, is (fate past s) Squashed) ∷ []

  abbrev drop_behind_actor : List (ℕ × Bool)
  drop_behind_actor = (2, lent) ∷ drop_behind_job

  pub drop_no_actor : is_actor setup actor ≡ false → refused setup past (Drop actor s) ≡ Some 1
  drop_no_actor none = refused-is setup past (Drop actor s) ∙ fails 1 (is_actor setup actor) drop_behind_actor none

  pub drop_no_job : is_actor setup actor ≡ true → lent ≡ false → refused setup past (Drop actor s) ≡ Some 2
  drop_no_job one none =
      refused-is setup past (Drop actor s)
      ∙ (holds 1 (is_actor setup actor) drop_behind_actor one ∙ fails 2 lent drop_behind_job none)

  pub drop_by : (b : Bool) → is_actor setup actor ≡ true → lent ≡ true → is (fate past s) Squashed ≡ b
      → refused setup past (Drop actor s) ≡ first_failing ((3, b) ∷ [])
  drop_by b one its is_it =
      refused-is setup past (Drop actor s)
      ∙ (holds 1 (is_actor setup actor) drop_behind_actor one ∙ (holds 2 lent drop_behind_job its ∙ rw is_it refl))

-- ---- The job

pub some_none : {A : Type 0} → (r : Option A) → is_some r ≡ true → is_none r ≡ false
some_none None some = absurd (false≢true some)
some_none (Some a) some = refl

pub none_some : {A : Type 0} → (r : Option A) → is_some r ≡ false → is_none r ≡ true
none_some None none = refl
none_some (Some a) none = absurd (false≢true (sym none))

spared_if_flying : (f : Fate) → is_in_flight f ≡ true → is f Squashed ≡ false
spared_if_flying f flies = grind (arith, nat_tests)

number_self : (n : ℕ) → (n == n) ≡ true
number_self n = grind (arith, nat_tests)

module _ (i : Inside) (core : IsCore i) (v : CoreView) (at : view_of i ≡ v) (actor s : ℕ) (x : OpenJob)
    (with_it : IsJobWith (picture v.setup v.past) actor s x) where
  pub lent_it : same_number (job v.past actor) (Some s) ≡ true
  lent_it = ap (λ o. same_number o (Some s)) with_it.opened.lent
      ∙ (ap (λ n. n == s) with_it.number ∙ number_self s)

  pub hart_inside : x.hart < length i.parts.harts.items
  hart_inside =
      let under = job_hart_there v.setup v.past (is_legal_view i core v at) actor x with_it.opened in
      subst (λ n. x.hart < n) (sym core.harts) (subst (λ u. x.hart < u.setup.harts) (sym at) under)

  pub gone_if : ((p : Picture) → PartsAgree p i.parts → list_any (λ n. n == x.seq) (p.flight x.hart) ≡ false)
      → is (fate v.past s) Squashed ≡ true
  gone_if gone =
      let here = gone (picture v.setup v.past) (parts_agree i core v at) in
      subst (λ n. is (fate v.past n) Squashed ≡ true) with_it.number
      (job_squashed v.setup v.past (is_legal_view i core v at) actor x with_it.opened here)

  pub gone_by : (r : Option Active) → is_none r ≡ true
      → IfNone r ((p : Picture) → PartsAgree p i.parts → list_any (λ n. n == x.seq) (p.flight x.hart) ≡ false)
      → is (fate v.past s) Squashed ≡ true
  gone_by (Some a) none gone = absurd (false≢true none)
  gone_by None none gone = gone_if gone

  pub flies_if : (a : Active) → ((p : Picture) → PartsAgree p i.parts → IsActive p x.hart a × (a.seq ≡ x.seq))
      → is (fate v.past s) Squashed ≡ false
  flies_if a found =
      let is_it = found (picture v.setup v.past) (parts_agree i core v at) in
      spared_if_flying (fate v.past s)
      (subst (λ n. is_in_flight (fate v.past n) ≡ true) (is_it.1 ∙ with_it.number)
      (stage_flies (picture v.setup v.past) a.seq a.stage is_it.0.stage))

  pub flies_by : (r : Option Active) → is_none r ≡ false
      → IfSome r (λ a. (p : Picture) → PartsAgree p i.parts → IsActive p x.hart a × (a.seq ≡ x.seq))
      → is (fate v.past s) Squashed ≡ false
  flies_by None some found = absurd (false≢true (sym some))
  flies_by (Some a) some found = flies_if a found

  pub there_by : (a : Active) → ((p : Picture) → PartsAgree p i.parts → IsActive p x.hart a × (a.seq ≡ x.seq))
      → InActiveList v.setup v.past x.hart s a
  there_by a found =
      let is_it = found (picture v.setup v.past) (parts_agree i core v at) in
      record {
        inside = job_hart_there v.setup v.past (is_legal_view i core v at) actor x with_it.opened;
        of_hart = subst (λ n. is_of v.past x.hart n ≡ true) with_it.number
            (job_hart v.setup v.past actor x with_it.opened);
        active = is_it.0;
        number = is_it.1 ∙ with_it.number;
      }

  -- What the parts make of it is what it has to say.
  pub says_by : (w o outcome : Outcome) (b : Bool) → w ≡ outcome_of_job (open_view x)
      → ((c : Computed) → w ≡ outcome_of x.op c None
      → o ≡ outcome_of x.op (checked i.parts.memory.image x.op c)
      (Some (read x.op (seen x.seq (queues_of i.parts.accesses x.hart).stores i.parts.memory) c.addr)))
      → b ≡ same_outcome outcome o
      → of_fetched v.past s (λ f. same_outcome outcome (outcome_now v.setup v.past s f)) ≡ b
  says_by w o outcome b worked makes b_is =
      let f = with_it.opened.instruction in
      let image = subst (λ u. i.parts.memory.image ≡ u.setup.image) at core.image in
      let same : IsSameJob x (open_view x) =
      record { seq = refl; op = refl; pc = refl; first = refl; second = refl } in
      let now : o ≡ outcome_now v.setup v.past x.seq f =
      says_now v.setup v.past i.parts (parts_agree i core v at) image actor x (open_view x) o with_it.opened same
      hart_inside (λ c is_it. makes c (worked ∙ is_it)) in
      let fetched : fetching v.past s ≡ Some f = ap (fetching v.past) (sym with_it.number) ∙ with_it.opened.fetched in
      ap (holds_of (λ g. same_outcome outcome (outcome_now v.setup v.past s g))) fetched
      ∙ (ap (λ n. same_outcome outcome (outcome_now v.setup v.past n f)) (sym with_it.number)
      ∙ (ap (same_outcome outcome) (sym now) ∙ sym b_is))
