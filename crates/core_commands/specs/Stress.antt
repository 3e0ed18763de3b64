-- The command `run --times`: so many runs of one image, and how often each end came. (This project's own
-- choice.)
use Rattle.std.specs.Prelude.{◌≡◌, ◌⊎◌, ℕ, max, Bool, true, false, List, [], ◌∷◌, ◌++◌, Option, Some, None, length, map}
use Rattle.std.specs.{Io.KnownBytes.Appends, List.AllByRecursion}
use Rattle.elf_image.specs.Image.{ProgramImage}
use Rattle.core_state.specs.View.{CoreView}
use Rattle.sim_inputs.specs.{declared.settings.Settings.Settings, declared.line.RunCommand.RunCommand}
use Rattle.stress_runs.specs.declared.keeping.Part.{Part}
use Rattle.stress_runs.specs.declared.tally.Row.{Row}
use Rattle.stress_runs.specs.Ends.{TallyView, Counts, end_of, tally_of}
use Rattle.stress_runs.specs.{Kept.AreKept, Kept.IsNextKept, Table.tally_text}
use Rattle.stress_runs.specs.{Answers.sampled_answer, Answers.sampled_text}
use Rattle.symbols.specs.Tables.{Table}
use Rattle.watched_outcomes.specs.declared.watch.Watch.{Watch}
use Rattle.outcome_queries.specs.{declared.watched.Asked.Asked, Watches.registers_asked, Watches.memory_asked}
use Rattle.outcome_queries.specs.declared.question.Question.{Question}
use Rattle.command_parts.specs.{Refused.AreAccepted, declared.refused.Refused.Refused}
use Rattle.command_parts.specs.declared.refused.Refused.TheVariants as reasons
use Rattle.core_commands.specs.{Account.kept_story, Making.IsOneRun, Run.LackARole, Run.IsRunRefusal}
use Rattle.plain_commands.specs.{Outcomes.IsWatchOf, Questions.status_of_answer}
use Rattle.core_commands.specs.Watching.{IsAsking, IsAllThere, IsAskedRefusal, IsAbsentOf}

-- How many runs are made: as many as are asked for, and one at least.
abbrev pub runs_of : ℕ → ℕ
runs_of times = max times 1

-- What is told of a tally: its table, and behind it what it answers to the question, where one is asked. The answer
-- decides the exit status then; else it is that of the worst run.
abbrev pub answer_told : Watch → Option Question → List Row → List ℕ
answer_told watch None rows = []
answer_told watch (Some question) rows = sampled_text watch question (sampled_answer watch question rows) rows

abbrev pub stress_text : List Asked → Watch → Option Question → ℕ → TallyView → List ℕ
stress_text all watch question runs tally = tally_text (registers_asked all) (memory_asked all) runs tally.rows
    ++ answer_told watch question tally.rows

abbrev pub stress_status : Watch → Option Question → TallyView → ℕ
stress_status watch None tally = tally.status
stress_status watch (Some question) tally = status_of_answer (sampled_answer watch question tally.rows)

-- What the command comes to. No role is without an actor. What the question and the list ask for is watched, and is
-- there. There are the cores of so many runs, the newest first, each of which was made for this (`Made`). Where that is
-- wanted, the core with which an end came first is kept in the files of that end (`Kept`). What was printed is the
-- table of their ends, each with what is watched of it, and the answer; the exit status goes with that.
pub record StressComesTo (settings : Settings) (image : ProgramImage) (names : Table) (run : RunCommand) (times : ℕ)
    (Made : List CoreView → Type 0) (Kept : Watch → List CoreView → Type 0) (old new : Option (List ℕ))
    (exit_status : ℕ) : Type 0 where
  pub accepted : AreAccepted settings
  pub manned : LackARole settings → ⊥
  pub question : Option Question
  pub all : List Asked
  pub watch : Watch
  pub asking : IsAsking settings.config.harts names run question all
  pub watches : IsWatchOf watch all
  pub there : IsAllThere image settings.config.harts watch
  pub cores : List CoreView
  pub many : length cores ≡ runs_of times
  pub are : AllByRecursion (IsOneRun settings image) cores
  pub made : Made cores
  pub kept : Kept watch cores
  pub printed : Appends old new
      (stress_text all watch question (runs_of times) (tally_of (map (end_of watch) cores)))
  pub stands : exit_status ≡ stress_status watch question (tally_of (map (end_of watch) cores))

-- When each refusal comes: what is asked is looked at first, then what is watched, then it is as for one run.
abbrev pub IsStressRefusal : Settings → ProgramImage → Table → RunCommand → Refused → Type 0
IsStressRefusal settings image names run (reasons.Condition why) =
    IsAskedRefusal settings.config.harts names run (reasons.Condition why)
IsStressRefusal settings image names run (reasons.Watch why) =
    IsAskedRefusal settings.config.harts names run (reasons.Watch why)
IsStressRefusal settings image names run reasons.ManyWatched =
    IsAskedRefusal settings.config.harts names run reasons.ManyWatched
IsStressRefusal settings image names run (reasons.NoHart hart) =
    IsAskedRefusal settings.config.harts names run (reasons.NoHart hart)
    ⊎ IsAbsentOf image settings.config.harts names run (reasons.NoHart hart)
IsStressRefusal settings image names run (reasons.NoWord bytes) =
    IsAbsentOf image settings.config.harts names run (reasons.NoWord bytes)
IsStressRefusal settings image names run reason = IsRunRefusal settings reason

-- ---- The parts of it

-- The tally is that of so many runs, of which this is watched.
pub record HasTallied (settings : Settings) (image : ProgramImage) (watch : Watch) (Made Kept : List CoreView → Type 0)
    (runs : ℕ) (tally : TallyView) : Type 0 where
  pub accepted : AreAccepted settings
  pub manned : LackARole settings → ⊥
  pub cores : List CoreView
  pub many : length cores ≡ runs
  pub are : AllByRecursion (IsOneRun settings image) cores
  pub made : Made cores
  pub kept : Kept cores
  pub tallied : tally ≡ tally_of (map (end_of watch) cores)

-- One more run was made and counted, and kept where that is wanted and its end was new (`Kept`).
pub record HasRunOnce (settings : Settings) (image : ProgramImage) (watch : Watch)
    (Made : CoreView → Type 0) (Kept : List Row → CoreView → Type 0) (old new : TallyView) : Type 0 where
  pub accepted : AreAccepted settings
  pub manned : LackARole settings → ⊥
  pub core : CoreView
  pub is : IsOneRun settings image core
  pub made : Made core
  pub counted : Counts (end_of watch core) old new
  pub kept : Kept old.rows core

-- What is put into a sink, where the ends are to be kept, of a program with these names: of the runs of these cores,
-- and of one more behind others with these rows.
abbrev pub AreEndsWritten : {S : Type 0} → (S → ℕ → Part → S → Type 0) → (S → Option (List ℕ)) → (S → Bool)
    → S → S → Bool → Table → Watch → List CoreView → Type 0
AreEndsWritten begins written has_failed old new true names watch cores =
    AreKept begins written has_failed (kept_story names) watch cores old new
AreEndsWritten begins written has_failed old new false names watch cores = new ≡ old

abbrev pub IsEndWritten : {S : Type 0} → (S → ℕ → Part → S → Type 0) → (S → Option (List ℕ)) → (S → Bool)
    → S → S → Bool → Table → Watch → List Row → CoreView → Type 0
IsEndWritten begins written has_failed old new true names watch rows core =
    IsNextKept begins written has_failed (kept_story names) watch rows core old new
IsEndWritten begins written has_failed old new false names watch rows core = new ≡ old
