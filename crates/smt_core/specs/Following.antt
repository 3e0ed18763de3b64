-- What following an event answers, and what it changes.
use Rattle.std.specs.Prelude.{◌≡◌, ◌<◌, ℕ, length, Some, None}
use Rattle.events.specs.declared.event.Event.{Event}
use Rattle.smt_model.specs.Rules.{refused}
use Rattle.core_state.specs.View.{CoreView, grown}
use Rattle.smt_core.specs.{Answers.IsFull, declared.follow.Followed.Followed}
use Rattle.smt_core.specs.declared.follow.Followed.TheVariants as followed

-- There was room, the event is allowed, and the history has grown by it alone.
pub record IsDone (old : CoreView) (e : Event) (new : CoreView) : Type 0 where
  pub room : length old.past < old.limit
  pub allowed : refused old.setup old.past e ≡ None
  pub grows : new ≡ grown e old

-- There was room, and this is the first rule that the event breaks: nothing has changed.
pub record IsRefused (old : CoreView) (e : Event) (rule : ℕ) (new : CoreView) : Type 0 where
  pub room : length old.past < old.limit
  pub breaks : refused old.setup old.past e ≡ Some rule
  pub unchanged : new ≡ old

abbrev pub IsFollowed : CoreView → Event → Followed → CoreView → Type 0
IsFollowed old e followed.Done new = IsDone old e new
IsFollowed old e (followed.Refused rule) new = IsRefused old e rule new
IsFollowed old e followed.Full new = IsFull old new
