-- The question that the command `outcomes` asks, what is answered, and which outcome shows it. (This project's own
-- choice; questions over all runs as in Clarke, Grumberg and Peled 1999, "Model Checking": some, each, none.)
use Rattle.std.specs.Prelude.{◌≡◌, ℕ, Bool, true, false, not, if◌then◌else◌, List, [], Option, Some, None, position}
use Rattle.std.specs.Prelude.{slice_get}
use Rattle.std.specs.{Borrow.Bor}
use Rattle.symbols.specs.Tables.{Table}
use Rattle.watched_outcomes.specs.{Endings.Ending, declared.watch.Watch.Watch}
use Rattle.outcomes.specs.{Found.Found, Found.Told}
use Rattle.searches.specs.declared.extent.Extent.{Extent}
use Rattle.searches.specs.declared.extent.Extent.TheVariants.{Whole}
use Rattle.outcome_queries.specs.declared.term.Term.{Term}
use Rattle.outcome_queries.specs.declared.question.Question.{Question}
use Rattle.outcome_queries.specs.declared.question.Question.TheVariants as questions
use Rattle.outcome_queries.specs.declared.question.Answer.{Answer}
use Rattle.outcome_queries.specs.declared.question.Answer.TheVariants.{Yes, No, Unknown}
use Rattle.outcome_queries.specs.{Conditions.Says, Conditions.terms_in, Holding.condition_holds}
use Rattle.outcome_queries.specs.{ConditionRefusals.IsRefusal, ConditionRefusals.at_start}
use Rattle.outcome_queries.specs.declared.refused.ConditionRefused.TheVariants as refused
use Rattle.sim_inputs.specs.declared.line.{QuestionText.QuestionText, OutcomesCommand.OutcomesCommand}
use Rattle.sim_inputs.specs.declared.line.QuestionText.TheVariants as texts
use Rattle.command_parts.specs.{declared.refused.Refused.Refused}
use Rattle.command_parts.specs.declared.refused.Refused.TheVariants as reasons

-- The question that a command's words ask, where the program has these names.
abbrev pub IsQuestionOf : Table → Option QuestionText → Option Question → Type 0
IsQuestionOf names None None = Unit {0}
IsQuestionOf names (Some (texts.Exists text)) (Some (questions.Exists condition)) = Says names condition text.now
IsQuestionOf names (Some (texts.ForAll text)) (Some (questions.ForAll condition)) = Says names condition text.now
IsQuestionOf names (Some (texts.Never text)) (Some (questions.Never condition)) = Says names condition text.now
IsQuestionOf names (Some texts.NeverStuck) (Some questions.NeverStuck) = Unit {0}
IsQuestionOf names text question = ⊥

-- The terms of its condition.
abbrev pub terms_asked : Option Question → List Term
terms_asked (Some (questions.Exists condition)) = terms_in condition
terms_asked (Some (questions.ForAll condition)) = terms_in condition
terms_asked (Some (questions.Never condition)) = terms_in condition
terms_asked question = []

-- An outcome settles the question: the condition holds of it; or doesn't, where it is asked of each.
abbrev pub settles : Watch → Option Question → Ending → Bool
settles watch (Some (questions.Exists condition)) ending = condition_holds watch ending condition
settles watch (Some (questions.ForAll condition)) ending = not (condition_holds watch ending condition)
settles watch (Some (questions.Never condition)) ending = condition_holds watch ending condition
settles watch question ending = false

-- The exit status that goes with an answer; and, where nothing is asked, with how far the search has come.
abbrev pub status_of_answer : Answer → ℕ
status_of_answer Yes = 0
status_of_answer No = 1
status_of_answer Unknown = 3

abbrev pub status_of_extent : Extent → ℕ
status_of_extent Whole = 0
status_of_extent extent = 3

-- A text is refused as a condition.
abbrev pub IsTextRefused : Table → List ℕ → Refused → Type 0
IsTextRefused names text (reasons.Condition why) = IsRefusal names text at_start (refused.Text why)
IsTextRefused names text reasons.Memory = Unit {0}
IsTextRefused names text reason = ⊥

-- So is the condition of a command.
abbrev pub IsConditionRefused : Table → Option QuestionText → Refused → Type 0
IsConditionRefused names (Some (texts.Exists text)) why = IsTextRefused names text.now why
IsConditionRefused names (Some (texts.ForAll text)) why = IsTextRefused names text.now why
IsConditionRefused names (Some (texts.Never text)) why = IsTextRefused names text.now why
IsConditionRefused names question why = ⊥
