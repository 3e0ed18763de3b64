-- What is answered to a question about all outcomes, and how. (This project's own choice, after the tools for litmus
-- tests.)
use Rattle.std.specs.Prelude.{ℕ, ◌+◌, Bool, true, false, not, if◌then◌else◌, List, [], ◌∷◌, ◌++◌, codes}
use Rattle.std.specs.{Fmt.decimal, List.list_all, List.list_any}
use Rattle.outcomes.specs.{Found.Told}
use Rattle.watched_outcomes.specs.{declared.watch.Watch.Watch, Endings.Ending}
use Rattle.outcome_queries.specs.declared.condition.Condition.{Condition}
use Rattle.outcome_queries.specs.declared.question.{Question.Question, Answer.Answer}
use Rattle.outcome_queries.specs.declared.question.Question.TheVariants.{Exists, ForAll, Never, NeverStuck}
use Rattle.outcome_queries.specs.declared.question.Answer.TheVariants as answer
use Rattle.outcome_queries.specs.{Holding.condition_holds}
use Rattle.text_fields.specs.Each.{each_from}

-- The condition holds of the outcome.
abbrev pub holds_of : Watch → Condition → Told → Bool
holds_of watch condition told = condition_holds watch told.ending condition

-- An answer that a whole list alone gives.
abbrev pub if_whole : Bool → Answer → Answer
if_whole true it = it
if_whole false it = answer.Unknown

-- The condition holds of an outcome; of each; of none; and each state can go on to an end. What was found settles the
-- first by one of which it holds, the second by one of which it doesn't, the third by one of which it holds.
abbrev pub answer_of : Watch → Question → List Told → Bool → Bool → Answer
answer_of watch (Exists condition) listed is_whole is_stuck =
    if list_any (holds_of watch condition) listed then answer.Yes else if_whole is_whole answer.No
answer_of watch (ForAll condition) listed is_whole is_stuck =
    if list_all (holds_of watch condition) listed then if_whole is_whole answer.Yes else answer.No
answer_of watch (Never condition) listed is_whole is_stuck =
    if list_any (holds_of watch condition) listed then answer.No else if_whole is_whole answer.Yes
answer_of watch NeverStuck listed is_whole is_stuck =
    if_whole is_whole (if is_stuck then answer.No else answer.Yes)

-- An end of its own settles a question: the condition holds of it; or doesn't, where it is asked of each. However many
-- other ends there are, this is answered then.
abbrev pub settles : Watch → Question → Ending → Bool
settles watch (Exists condition) ending = condition_holds watch ending condition
settles watch (ForAll condition) ending = not (condition_holds watch ending condition)
settles watch (Never condition) ending = condition_holds watch ending condition
settles watch NeverStuck ending = false

abbrev pub settled : Question → Answer
settled (Exists condition) = answer.Yes
settled (ForAll condition) = answer.No
settled (Never condition) = answer.No
settled NeverStuck = answer.Unknown

-- The outcomes that settle a question, and whether there are such where this is answered.
abbrev pub is_named : Watch → Question → Told → Bool
is_named watch question told = settles watch question told.ending

abbrev pub names_lines : Question → Answer → Bool
names_lines (Exists condition) answer.Yes = true
names_lines (ForAll condition) answer.No = true
names_lines (Never condition) answer.No = true
names_lines question it = false

-- The numbers of their lines, from 1.
abbrev pub place_of : Bool → ℕ → List ℕ
place_of named number = if named then 32 ∷ decimal number else []

abbrev pub place_text : Watch → Question → ℕ → Told → List ℕ
place_text watch question index told = place_of (is_named watch question told) (index + 1)

unfoldable pub lines_text : Watch → Question → Answer → List Told → List ℕ
lines_text watch question it listed = if names_lines question it
    then codes ", outcomes" ++ each_from (place_text watch question) 0 listed
    else []

-- The whole line.
abbrev pub question_words : Question → List ℕ
question_words (Exists condition) = codes "exists: "
question_words (ForAll condition) = codes "forall: "
question_words (Never condition) = codes "never: "
question_words NeverStuck = codes "never-stuck: "

abbrev pub answer_words : Answer → List ℕ
answer_words answer.Yes = codes "yes"
answer_words answer.No = codes "no"
answer_words answer.Unknown = codes "unknown"

unfoldable pub answer_text : Watch → Question → Answer → List Told → List ℕ
answer_text watch question it listed =
    question_words question ++ (answer_words it ++ (lines_text watch question it listed ++ 10 ∷ []))
