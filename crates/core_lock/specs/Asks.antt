-- What is asked of a core through its lock, and what is said to it.
use Rattle.std.specs.Prelude.{◌≡◌, ℕ, Bool, true, false, not, ◌==◌, ◌&&◌, Option, Some, None}
use Rattle.events.specs.declared.event.Event.{Event}
use Rattle.events.specs.declared.event.Event.TheVariants as event
use Rattle.exec_units.specs.Job.{JobView}
use Rattle.smt_model.specs.Asks.{AskFetch, AskDecode, AskRename, AskRetire, Ask as CoreAsk}
use Rattle.core_state.specs.View.{CoreView, grown}
use Rattle.smt_core.specs.declared.answer.Answer.{Answer}
use Rattle.smt_core.specs.declared.answer.Answer.TheVariants as plain
use Rattle.smt_core.specs.declared.answer.IssueAnswer.TheVariants as issue
use Rattle.smt_core.specs.declared.answer.CompleteAnswer.TheVariants as complete
use Rattle.smt_core.specs.Answers.{Answered, IssueAnswered, CompleteAnswered, IsPredicted}
use Rattle.core_lock.specs.{declared.ask.Ask.Ask, declared.ask.Asked.Asked, declared.ask.Said.Said}
use Rattle.core_lock.specs.declared.ask.Ask.TheVariants as ask
use Rattle.core_lock.specs.declared.ask.Asked.TheVariants as asked
use Rattle.core_lock.specs.declared.ask.Said.TheVariants as said

-- An ask without what it hands over.
abbrev pub asked_of : Ask → Asked
asked_of ask.Fetch = asked.Fetch
asked_of (ask.Decode hart) = asked.Decode hart
asked_of (ask.Rename hart) = asked.Rename hart
asked_of ask.Issue = asked.Issue
asked_of (ask.Complete done) = asked.Complete
asked_of (ask.Retire hart) = asked.Retire hart

-- The event of the step that was made.
abbrev pub event_in : Said → Option Event
event_in (said.Event e) = Some e
event_in (said.Job job e) = Some e
event_in said.Idle = None
event_in said.Stranger = None
event_in said.Full = None

-- What is said for such an answer.
abbrev pub plain_said : Answer → Said
plain_said (plain.Done e) = said.Event e
plain_said plain.Idle = said.Idle
plain_said plain.Full = said.Full

-- What a core answers to an ask that lends and takes no job.
abbrev pub PlainlyReplied : CoreAsk → CoreView → Said → CoreView → Type 0
PlainlyReplied ask old (said.Event e) new = Answered ask old (plain.Done e) new
PlainlyReplied ask old (said.Job job e) new = ⊥
PlainlyReplied ask old said.Idle new = Answered ask old plain.Idle new
PlainlyReplied ask old said.Stranger new = ⊥
PlainlyReplied ask old said.Full new = Answered ask old plain.Full new

-- What it answers to an issue, and to a job that is handed back.
abbrev pub IssueReplied : ℕ → CoreView → Said → CoreView → Type 0
IssueReplied actor old (said.Event e) new = ⊥
IssueReplied actor old (said.Job job e) new = IssueAnswered actor old (issue.Job job e) new
IssueReplied actor old said.Idle new = IssueAnswered actor old issue.Idle new
IssueReplied actor old said.Stranger new = ⊥
IssueReplied actor old said.Full new = IssueAnswered actor old issue.Full new

abbrev pub CompleteReplied : ℕ → JobView → CoreView → Said → CoreView → Type 0
CompleteReplied actor job old (said.Event e) new =
    CompleteAnswered actor job old (complete.Done e) new
CompleteReplied actor job old (said.Job other e) new = ⊥
CompleteReplied actor job old said.Idle new = ⊥
CompleteReplied actor job old said.Stranger new =
    CompleteAnswered actor job old complete.Stranger new
CompleteReplied actor job old said.Full new = CompleteAnswered actor job old complete.Full new

-- What is said to an actor is the core's own answer to its ask.
abbrev pub Replied : ℕ → Ask → CoreView → Said → CoreView → Type 0
Replied actor ask.Fetch old said new = PlainlyReplied (AskFetch actor) old said new
Replied actor (ask.Decode hart) old said new = PlainlyReplied (AskDecode actor hart) old said new
Replied actor (ask.Rename hart) old said new = PlainlyReplied (AskRename actor hart) old said new
Replied actor ask.Issue old said new = IssueReplied actor old said new
Replied actor (ask.Complete done) old said new = CompleteReplied actor done.job old said new
Replied actor (ask.Retire hart) old said new = PlainlyReplied (AskRetire actor hart) old said new

-- A fetch is told with what this predictor guessed of it; in no other ask is the predictor asked.
abbrev pub IsPredictedBy : {P : Type 0} → (P → ℕ → ℕ → ℕ → ℕ → P → Type 0) → P → Asked → Said
    → P → Type 0
IsPredictedBy predicts before asked.Fetch (said.Event e) after =
    IsPredicted predicts before (plain.Done e) after
IsPredictedBy predicts before asked.Fetch (said.Job job e) after = ⊥
IsPredictedBy predicts before asked.Fetch said.Idle after = after ≡ before
IsPredictedBy predicts before asked.Fetch said.Stranger after = ⊥
IsPredictedBy predicts before asked.Fetch said.Full after = after ≡ before
IsPredictedBy predicts before (asked.Decode hart) said after = after ≡ before
IsPredictedBy predicts before (asked.Rename hart) said after = after ≡ before
IsPredictedBy predicts before asked.Issue said after = after ≡ before
IsPredictedBy predicts before asked.Complete said after = after ≡ before
IsPredictedBy predicts before (asked.Retire hart) said after = after ≡ before

-- The core after a step, where one was made.
abbrev pub grown_by : Option Event → CoreView → CoreView
grown_by None core = core
grown_by (Some e) core = grown e core

-- The event is of the kind that was asked for, and by this actor. A job that is handed back is
-- completed or dropped, and a retirement may turn out a refetch.
abbrev pub is_event_for : ℕ → Asked → Event → Bool
is_event_for k asked.Fetch (event.Fetch actor hart seq pc word predicted) = actor == k
is_event_for k (asked.Decode hart) (event.Decode actor seq) = actor == k
is_event_for k (asked.Rename hart) (event.Rename actor seq phys) = actor == k
is_event_for k asked.Issue (event.Issue actor seq) = actor == k
is_event_for k asked.Complete (event.Complete actor seq outcome) = actor == k
is_event_for k asked.Complete (event.Drop actor seq) = actor == k
is_event_for k (asked.Retire hart) (event.Retire actor seq effect) = actor == k
is_event_for k (asked.Retire hart) (event.Refetch actor seq) = actor == k
is_event_for k _ _ = false

abbrev pub is_issue : Asked → Bool
is_issue asked.Fetch = false
is_issue (asked.Decode hart) = false
is_issue (asked.Rename hart) = false
is_issue asked.Issue = true
is_issue asked.Complete = false
is_issue (asked.Retire hart) = false

abbrev pub is_complete : Asked → Bool
is_complete asked.Fetch = false
is_complete (asked.Decode hart) = false
is_complete (asked.Rename hart) = false
is_complete asked.Issue = false
is_complete asked.Complete = true
is_complete (asked.Retire hart) = false

-- What can be said to this ask of this actor, whatever the history: its event; a job to an issue
-- alone, which no event without one answers; a stranger to a job that is handed back alone, which
-- is never answered by idle.
abbrev pub is_reply : ℕ → Asked → Said → Bool
is_reply k asked (said.Event e) = not (is_issue asked) && is_event_for k asked e
is_reply k asked (said.Job job e) = is_issue asked && is_event_for k asked e
is_reply k asked said.Idle = not (is_complete asked)
is_reply k asked said.Stranger = is_complete asked
is_reply k asked said.Full = true
