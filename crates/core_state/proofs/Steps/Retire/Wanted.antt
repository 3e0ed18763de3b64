-- What a retirement and a refetch both want: that the instruction is the oldest of its hart in flight, and completed.
use Rattle.std.specs.Prelude.{◌≡◌, ℕ, ◌<◌, ◌==◌, true, List, Option, Some, None}
use Rattle.std.proofs.Common.{◌∙◌, sym, ap, arith}
use Rattle.std.proofs.{lemmas.Bool.Decides.nat_tests}
use Rattle.events.specs.{declared.effect.Effect.Effect, declared.effect.Outcome.Outcome}
use Rattle.events.specs.{declared.event.Event.Event}
use Rattle.events.specs.declared.event.Event.TheVariants.{Retire, Refetch}
use Rattle.retire_squash.specs.{declared.active.Active.Active, declared.active.Stage.Stage}
use Rattle.retire_squash.specs.declared.active.Stage.TheVariants as stages
use Rattle.smt_model.specs.{Basics.holds_of, Flights.flight, Jobs.is_actor, Picture.Picture, Picture.picture}
use Rattle.smt_model.specs.{Setup.Setup}
use Rattle.smt_model.specs.Fates.{Completed, fate, is, is_of, stage}
use Rattle.smt_model.specs.Rules.{is_first, of_fetched, refused}
use Rattle.smt_model.proofs.{Fates.Moves.fate_at, Fates.Moves.stage_of, Fates.Numbers.first_of_hart}
use Rattle.smt_model.proofs.Allowed.{retire_allowed, refetch_allowed}
use Rattle.core_parts.specs.Agree.{IsActive, IsStage}
use Rattle.core_steps.specs.Retirement.{CanRetire}

pub record Wants (setup : Setup) (past : List Event) (actor s : ℕ) : Type 0 where
  pub actor_is : is_actor setup actor ≡ true
  pub fated : is (fate past s) Completed ≡ true
  pub oldest : of_fetched past s (λ f. is_first s (flight past f.hart)) ≡ true

pub retire_wants : (setup : Setup) (past : List Event) (actor s : ℕ) (effect : Effect)
    → refused setup past (Retire actor s effect) ≡ None → Wants setup past actor s
retire_wants setup past actor s effect ok =
    let is = retire_allowed setup past actor s effect ok in
    record { actor_is = is.actor_is; fated = is.fated; oldest = is.oldest }

pub refetch_wants : (setup : Setup) (past : List Event) (actor s : ℕ) → refused setup past (Refetch actor s) ≡ None
    → Wants setup past actor s
refetch_wants setup past actor s ok =
    let is = refetch_allowed setup past actor s ok in
    record { actor_is = is.actor_is; fated = is.fated; oldest = is.oldest }

-- ---- In the words of the active list

-- A completed instruction has its outcome in the active list.
stage_outcome : (p : Picture) (s : ℕ) (at : Stage) → p.fate s ≡ Completed → IsStage p s at
    → (o : Outcome) × (p.completion s ≡ Some o)
stage_outcome p s stages.Renamed done is = absurd (omega (arith, ap stage (sym is ∙ done)))
stage_outcome p s stages.Issued done is = absurd (omega (arith, ap stage (sym is ∙ done)))
stage_outcome p s (stages.Completed outcome) done is = (outcome, is.1)

pub is_of_active : (setup : Setup) (past : List Event) (h : ℕ) (x : Active) → IsActive (picture setup past) h x
    → is_of past h x.seq ≡ true
is_of_active setup past h x active =
    ap (holds_of (λ f. f.hart == h)) active.fetched ∙ (grind (arith, nat_tests))

-- It is the first of its hart, with some outcome.
pub record IsWanted (setup : Setup) (past : List Event) (h : ℕ) (x : Active) : Type 0 where
  pub outcome : Outcome
  pub can : CanRetire (picture setup past) h x outcome

pub wanted : (setup : Setup) (past : List Event) (actor h : ℕ) (x : Active) → IsActive (picture setup past) h x
    → Wants setup past actor x.seq → IsWanted setup past h x
wanted setup past actor h x active wants =
    let done : fate past x.seq ≡ Completed =
    fate_at (fate past x.seq) Completed (stage_of (fate past x.seq) Completed wants.fated) in
    let ends = stage_outcome (picture setup past) x.seq x.stage done active.stage in
    record {
      outcome = ends.0;
      can = record {
        oldest = first_of_hart past (flight past) h x.seq (is_of_active setup past h x active) wants.oldest;
        is_active = active;
        completed = done;
        outcome = ends.1;
      };
    }
