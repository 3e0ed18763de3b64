-- A unit that hands back the job that came has taken its turn.
use Rattle.std.proofs.Common.{◌≡◌, ℕ, Bool, if◌then◌else◌, subst}
use Rattle.std.specs.Prelude.{Option, Some}
use Rattle.exec_units.specs.Job.{JobView, DoneView}
use Rattle.smt_model.specs.Setup.{Setup}
use Rattle.core_lock.specs.declared.ask.Ask.TheVariants as ask
use Rattle.core_lock.specs.declared.board.reason.Reason.TheVariants as reason
use Rattle.actors.specs.declared.turn_outcome.TurnOutcome.{TurnOutcome}
use Rattle.actors.specs.declared.turn_outcome.TurnOutcome.TheVariants as turn
use Rattle.actors.specs.Turns.{Counted, Asks, Issues, IsUnitTurn, both}

pub handed_back : (setup : Setup) (limit actor now : ℕ) (lent : Option JobView) (job : JobView)
    (before : Counted) (issued : TurnOutcome) (between : Counted) (done : DoneView) (completed : TurnOutcome)
    (after : Counted) (goes_on : Bool) (outcome : TurnOutcome)
    → Issues setup limit actor lent before issued between → lent ≡ Some job → done.job ≡ job → now ≡ actor
    → Asks setup limit now (ask.Complete done) between completed after
    → outcome ≡ (if goes_on then both issued completed else turn.Over reason.Asked)
    → IsUnitTurn setup limit actor before outcome after
handed_back setup limit actor now lent job before issued between done completed after goes_on outcome issues came_job
    its_job is completes ends = (
      Some job,
      issued,
      between,
      subst (λ j. Issues setup limit actor j before issued between) came_job issues,
      (
        done,
        its_job,
        completed,
        subst (λ k. Asks setup limit k (ask.Complete done) between completed after) is completes,
        goes_on,
        ends,
      ),
    )
