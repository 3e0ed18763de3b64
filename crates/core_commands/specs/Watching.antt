-- What is asked of many runs and watched of them, and when that is refused: as `outcomes` does. (This project's own
-- choice.)
use Rattle.std.specs.Prelude.{◌≡◌, ℕ, false, List, [], ◌++◌, Option, Some, Contains, All}
use Rattle.std.specs.Borrow.{Bor}
use Rattle.elf_image.specs.Image.{ProgramImage}
use Rattle.symbols.specs.Tables.{Table}
use Rattle.watched_outcomes.specs.declared.{watch.Watch.Watch, watch.WatchedRegister.WatchedRegister}
use Rattle.watched_outcomes.specs.{Watching.AreThere, Watching.is_register_there}
use Rattle.outcomes.specs.{Refusals.AreWords, Refusals.CanLoad}
use Rattle.outcome_queries.specs.{declared.watched.Asked.Asked, declared.term.Term.Term}
use Rattle.outcome_queries.specs.declared.question.Question.{Question}
use Rattle.outcome_queries.specs.Watches.{IsOnceBehind, IsWatchedFor, LacksRoom, asked_in}
use Rattle.outcome_queries.specs.Harts.{IsHartThere, absent_hart}
use Rattle.sim_inputs.specs.declared.line.RunCommand.{RunCommand}
use Rattle.command_parts.specs.declared.refused.Refused.{Refused}
use Rattle.command_parts.specs.declared.refused.Refused.TheVariants as reasons
use Rattle.plain_commands.specs.Outcomes.{IsListOf, IsMisspelled, IsWatchOf}
use Rattle.plain_commands.specs.Questions.{IsConditionRefused, IsQuestionOf, terms_asked}

-- What a list names, where the program has these names, and behind it what these terms name, each once: so all that the
-- terms speak of is watched.
pub record IsAskedOnce (names : Table) (text : Option (Bor (List ℕ))) (terms : List Term) (all : List Asked) : Type 0 where
  pub list : List Asked
  pub named : IsListOf names text list
  pub once : IsOnceBehind [] (list ++ asked_in terms) all
  pub told : All (IsWatchedFor all) terms

-- The question that many runs of so many harts are asked, and all that is watched for it and for their list. Each hart
-- that its condition names is there.
pub record IsAsking (harts : ℕ) (names : Table) (run : RunCommand) (question : Option Question) (all : List Asked)
    : Type 0 where
  pub asks : IsQuestionOf names run.question question
  pub asked : IsAskedOnce names run.watch (terms_asked question) all
  pub there : All (IsHartThere harts) (terms_asked question)

-- All of it is there, in so many harts of an image.
pub record IsAllThere (image : ProgramImage) (harts : ℕ) (watch : Watch) : Type 0 where
  pub registers : AreThere harts watch
  pub words : AreWords image watch

-- A list, or what is watched for it and for these terms, is refused: it is misspelled, or names what the program hasn't;
-- or more is asked for than can be watched.
abbrev pub LacksRoomFor : Table → Option (Bor (List ℕ)) → List Term → Type 0
LacksRoomFor names text terms = (list : List Asked) × IsListOf names text list × LacksRoom [] (list ++ asked_in terms)

abbrev pub IsListRefusal : Table → Option (Bor (List ℕ)) → List Term → Refused → Type 0
IsListRefusal names text terms (reasons.Watch why) = IsMisspelled names text why
IsListRefusal names text terms reasons.ManyWatched = LacksRoomFor names text terms
IsListRefusal names text terms _ = ⊥

-- What is asked is refused: the condition first, then that, then the first hart of the condition that isn't there.
abbrev pub IsAskedRefusal : ℕ → Table → RunCommand → Refused → Type 0
IsAskedRefusal harts names run (reasons.Condition why) =
    IsConditionRefused names run.question (reasons.Condition why)
IsAskedRefusal harts names run (reasons.Watch why) = IsMisspelled names run.watch why
IsAskedRefusal harts names run reasons.ManyWatched = (question : Option Question)
    × IsQuestionOf names run.question question × LacksRoomFor names run.watch (terms_asked question)
IsAskedRefusal harts names run (reasons.NoHart hart) = (question : Option Question)
    × IsQuestionOf names run.question question × (absent_hart harts (terms_asked question) ≡ Some hart)
IsAskedRefusal harts names run reasons.Memory = Unit {0}
IsAskedRefusal harts names run _ = ⊥

-- What is watched isn't there: a register of a hart, or bytes of memory. Of memory nothing is said.
abbrev pub IsAbsent : ProgramImage → ℕ → Watch → Refused → Type 0
IsAbsent image harts watch (reasons.NoHart hart) = (w : WatchedRegister) × Contains watch.registers.items w
    × (is_register_there harts w ≡ false) × (hart ≡ w.hart)
IsAbsent image harts watch (reasons.NoWord bytes) = Contains watch.words.items bytes × (CanLoad image bytes → ⊥)
IsAbsent image harts watch reasons.Memory = Unit {0}
IsAbsent image harts watch _ = ⊥

-- So it is of what a command watches.
abbrev pub IsAbsentOf : ProgramImage → ℕ → Table → RunCommand → Refused → Type 0
IsAbsentOf image harts names run reason = (question : Option Question) × (all : List Asked) × (watch : Watch)
    × IsAsking harts names run question all × IsWatchOf watch all × IsAbsent image harts watch reason
