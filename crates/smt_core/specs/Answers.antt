-- What the calls of a core answer, and what they change.
use Rattle.std.specs.Prelude.{◌≡◌, ◌<◌, ℕ, true, List, length, Option, Some, None}
use Rattle.events.specs.{declared.event.Event.Event, declared.event.Event.TheVariants.Fetch}
use Rattle.smt_model.specs.{Exec.next_pc, Setup.Setup, Rules.refused}
use Rattle.exec_units.specs.Job.{JobView}
use Rattle.smt_model.specs.Asks.{Ask, AskRename, AskIssue, AskComplete, answers}
use Rattle.core_state.specs.Answers.{AllowsNone, TakesLeast, IsJobOf, IsStrange}
use Rattle.core_state.specs.View.{CoreView, grown}
use Rattle.smt_core.specs.{declared.answer.Answer.Answer, declared.answer.IssueAnswer.IssueAnswer}
use Rattle.smt_core.specs.{declared.answer.CompleteAnswer.CompleteAnswer}
use Rattle.smt_core.specs.declared.answer.Answer.TheVariants as plain
use Rattle.smt_core.specs.declared.answer.IssueAnswer.TheVariants as issue
use Rattle.smt_core.specs.declared.answer.CompleteAnswer.TheVariants as complete

-- What the rules leave open and a core decides: a rename takes the least free register. What a
-- fetch predicts is its predictor's.
abbrev pub Decides : Ask → Setup → List Event → Event → Type 0
Decides (AskRename actor hart) setup past e = TakesLeast setup past e
Decides _ setup past e = Unit {0}

-- The step was made: there was room, the event is allowed and one that was asked for, and the
-- history has grown by it alone.
pub record IsMade (ask : Ask) (old : CoreView) (e : Event) (new : CoreView) : Type 0 where
  pub room : length old.past < old.limit
  pub allowed : refused old.setup old.past e ≡ None
  pub asked : answers ask old.past e ≡ true
  pub decided : Decides ask old.setup old.past e
  pub grows : new ≡ grown e old

-- No step was made, though there was room: no event that answers the ask is allowed, and nothing
-- has changed.
pub record IsIdle (ask : Ask) (old new : CoreView) : Type 0 where
  pub room : length old.past < old.limit
  pub idle : AllowsNone old.setup ask old.past
  pub unchanged : new ≡ old

-- There was no room: nothing has changed.
pub record IsFull (old new : CoreView) : Type 0 where
  pub full : length old.past ≡ old.limit
  pub unchanged : new ≡ old

abbrev pub Answered : Ask → CoreView → Answer → CoreView → Type 0
Answered ask old (plain.Done e) new = IsMade ask old e new
Answered ask old plain.Idle new = IsIdle ask old new
Answered ask old plain.Full new = IsFull old new

-- What is predicted of a hart's fetch at a pc: where there is a word, the predictor's guess, by
-- which the predictor goes from `before` to `after`; where there is none, the pc behind, and the
-- predictor isn't asked.
abbrev pub IsGuess : {P : Type 0} → (P → ℕ → ℕ → ℕ → ℕ → P → Type 0) → P → ℕ → ℕ → Option ℕ → ℕ
    → P → Type 0
IsGuess predicts before hart pc (Some word) predicted after =
    predicts before hart pc word predicted after
IsGuess predicts before hart pc None predicted after = (predicted ≡ next_pc pc) × (after ≡ before)

-- A fetch that was made tells what is predicted of it; the predictor isn't asked where none was
-- made.
abbrev pub IsPredicted : {P : Type 0} → (P → ℕ → ℕ → ℕ → ℕ → P → Type 0) → P → Answer → P → Type 0
IsPredicted predicts before (plain.Done (Fetch actor hart seq pc word predicted)) after =
    IsGuess predicts before hart pc word predicted after
IsPredicted predicts before (plain.Done _) after = ⊥
IsPredicted predicts before plain.Idle after = after ≡ before
IsPredicted predicts before plain.Full after = after ≡ before

-- An issue lends the job that the history now has open for the actor.
pub record IsLent (actor : ℕ) (old : CoreView) (job : JobView) (e : Event)
    (new : CoreView) : Type 0 where
  pub made : IsMade (AskIssue actor) old e new
  pub lent : IsJobOf new.setup new.past actor job

abbrev pub IssueAnswered : ℕ → CoreView → IssueAnswer → CoreView → Type 0
IssueAnswered actor old (issue.Job job e) new = IsLent actor old job e new
IssueAnswered actor old issue.Idle new = IsIdle (AskIssue actor) old new
IssueAnswered actor old issue.Full new = IsFull old new

-- A job is taken back where it is the one that the history has open for the actor.
pub record IsTaken (actor : ℕ) (job : JobView) (old : CoreView) (e : Event)
    (new : CoreView) : Type 0 where
  pub made : IsMade (AskComplete actor) old e new
  pub lent : IsJobOf old.setup old.past actor job

-- There was room, and the actor has no such job open: nothing has changed.
pub record IsStranger (actor : ℕ) (job : JobView) (old new : CoreView) : Type 0 where
  pub room : length old.past < old.limit
  pub strange : IsStrange old.setup old.past actor job
  pub unchanged : new ≡ old

abbrev pub CompleteAnswered : ℕ → JobView → CoreView → CompleteAnswer → CoreView → Type 0
CompleteAnswered actor job old (complete.Done e) new = IsTaken actor job old e new
CompleteAnswered actor job old complete.Stranger new = IsStranger actor job old new
CompleteAnswered actor job old complete.Full new = IsFull old new
