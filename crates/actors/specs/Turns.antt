-- What an actor asks in one turn, and what comes of it.
use Rattle.std.specs.Prelude.{◌≡◌, ℕ, ◌==◌, if◌then◌else◌, Bool, Option, Some, None}
use Rattle.events.specs.declared.event.Event.{Event}
use Rattle.exec_units.specs.Job.{JobView, DoneView}
use Rattle.events.specs.declared.role.Role.{Role}
use Rattle.smt_model.specs.{Setup.Setup}
use Rattle.events.specs.declared.role.Role.TheVariants as role
use Rattle.core_state.specs.View.{CoreView}
use Rattle.core_lock.specs.{declared.ask.Ask.Ask, declared.ask.Said.Said}
use Rattle.core_lock.specs.declared.ask.Ask.TheVariants as ask
use Rattle.core_lock.specs.declared.ask.Said.TheVariants as said
use Rattle.core_lock.specs.{Asks.Replied, Asks.event_in, Passes.more, Passes.later}
use Rattle.core_lock.specs.Passes.{going_in}
use Rattle.smt_core.specs.Shown.{Shown}
use Rattle.core_lock.specs.declared.board.reason.Reason.TheVariants as reason
use Rattle.actors.specs.declared.turn_outcome.TurnOutcome.{TurnOutcome}
use Rattle.actors.specs.declared.turn_outcome.TurnOutcome.TheVariants as turn

-- What comes of an ask with this reply, while harts are going.
abbrev pub outcome_while_going : Said → TurnOutcome
outcome_while_going (said.Event e) = turn.Advanced
outcome_while_going (said.Job job e) = turn.Advanced
outcome_while_going said.Idle = turn.Idle
outcome_while_going said.Stranger = turn.Idle
outcome_while_going said.Full = turn.Over reason.Full

-- What comes of an ask after which so many harts are going.
abbrev pub outcome_of : Said → ℕ → TurnOutcome
outcome_of said going = if going == 0 then turn.Over reason.Ended else outcome_while_going said

-- What two asks come to, one after the other.
abbrev pub both : TurnOutcome → TurnOutcome → TurnOutcome
both (turn.Over why) later = turn.Over why
both turn.Advanced (turn.Over why) = turn.Over why
both turn.Advanced turn.Advanced = turn.Advanced
both turn.Advanced turn.Idle = turn.Advanced
both turn.Idle later = later

-- What a pass has counted of its actor: how many events, and the last of them.
pub record Counted : Type 0 where
  pub count : ℕ
  pub last : Option Event

-- The core behind the lock is one of this setup and limit, before the step and after it, and what
-- `Shown` says holds of it both times. The actor's ask was answered so in that step, and so many
-- harts were going then.
abbrev pub IsAnswered : Setup → ℕ → ℕ → Ask → Said → ℕ → Type 0
IsAnswered setup limit actor ask said going =
    (old : CoreView) × (new : CoreView) × Shown old × Shown new × (old.setup ≡ setup)
    × (old.limit ≡ limit) × Replied actor ask old said new × (going ≡ going_in new)

-- The pass counts the event of the reply, where there is one.
abbrev pub Counts : Said → Counted → Counted → Type 0
Counts said before after = (after.count ≡ more before.count (event_in said))
    × (after.last ≡ later before.last (event_in said))

-- The actor made this one ask, and it came to this.
abbrev pub Asks : Setup → ℕ → ℕ → Ask → Counted → TurnOutcome → Counted → Type 0
Asks setup limit actor ask before outcome after =
    (said : Said) × (going : ℕ) × IsAnswered setup limit actor ask said going
    × Counts said before after × (outcome ≡ outcome_of said going)

-- The actor made these two asks, one after the other.
abbrev pub AsksBoth : Setup → ℕ → ℕ → Ask → Ask → Counted → TurnOutcome → Counted → Type 0
AsksBoth setup limit actor ask next before outcome after =
    (first : TurnOutcome) × (between : Counted) × (second : TurnOutcome)
    × Asks setup limit actor ask before first between
    × Asks setup limit actor next between second after × (outcome ≡ both first second)

-- The job that came, if one did.
abbrev pub job_in : Said → Option JobView
job_in (said.Event e) = None
job_in (said.Job job e) = Some job
job_in said.Idle = None
job_in said.Stranger = None
job_in said.Full = None

-- The actor asked for a job, and this one came, or none.
abbrev pub Issues : Setup → ℕ → ℕ → Option JobView → Counted → TurnOutcome → Counted → Type 0
Issues setup limit actor job before outcome after =
    (said : Said) × (going : ℕ) × IsAnswered setup limit actor ask.Issue said going
    × Counts said before after × (job ≡ job_in said) × (outcome ≡ outcome_of said going)

-- A job that came was worked and handed back; the run is over where the gate didn't let the actor
-- go on. Where no job came, nothing more was asked.
abbrev pub HandsBack : Setup → ℕ → ℕ → Option JobView → TurnOutcome → Counted → TurnOutcome → Counted
    → Type 0
HandsBack setup limit actor None issued between outcome after =
    (after ≡ between) × (outcome ≡ issued)
HandsBack setup limit actor (Some job) issued between outcome after =
    (done : DoneView) × (done.job ≡ job) × (completed : TurnOutcome)
    × Asks setup limit actor (ask.Complete done) between completed after
    × (goes_on : Bool)
    × (outcome ≡ (if goes_on then both issued completed else turn.Over reason.Asked))

-- The turn of a unit: it asks for a job, and hands back one that comes.
abbrev pub IsUnitTurn : Setup → ℕ → ℕ → Counted → TurnOutcome → Counted → Type 0
IsUnitTurn setup limit actor before outcome after =
    (job : Option JobView) × (issued : TurnOutcome) × (between : Counted)
    × Issues setup limit actor job before issued between
    × HandsBack setup limit actor job issued between outcome after

-- The turn of an actor of this role. The hart is the one to which a front end or a retirer has come.
abbrev pub IsTurn : Role → Setup → ℕ → ℕ → ℕ → Counted → TurnOutcome → Counted → Type 0
IsTurn role.Fetch setup limit actor hart before outcome after =
    Asks setup limit actor ask.Fetch before outcome after
IsTurn role.Front setup limit actor hart before outcome after =
    AsksBoth setup limit actor (ask.Decode hart) (ask.Rename hart) before outcome after
IsTurn role.Retire setup limit actor hart before outcome after =
    Asks setup limit actor (ask.Retire hart) before outcome after
IsTurn _ setup limit actor hart before outcome after =
    IsUnitTurn setup limit actor before outcome after
