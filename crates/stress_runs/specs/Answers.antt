-- What so many runs answer to a question. They are a sample: an end that came settles it, where it can; that others can't
-- come no runs say. (This project's own choice; the answers are those of `outcomes`.)
use Rattle.std.specs.Prelude.{ℕ, ◌+◌, Bool, if◌then◌else◌, List, [], ◌∷◌, ◌++◌, codes}
use Rattle.std.specs.{List.list_any}
use Rattle.watched_outcomes.specs.{declared.watch.Watch.Watch}
use Rattle.outcome_queries.specs.declared.question.{Question.Question, Answer.Answer}
use Rattle.outcome_queries.specs.declared.question.Answer.TheVariants.{Unknown}
use Rattle.outcome_text.specs.Answers.{settles, settled, names_lines, place_of, question_words, answer_words}
use Rattle.text_fields.specs.Each.{each_from}
use Rattle.stress_runs.specs.declared.tally.Row.{Row}

-- The end of a row settles the question; and what is answered then, if one does.
abbrev pub row_settles : Watch → Question → Row → Bool
row_settles watch question row = settles watch question row.end

abbrev pub sampled_answer : Watch → Question → List Row → Answer
sampled_answer watch question rows =
    if list_any (row_settles watch question) rows then settled question else Unknown

-- The numbers of the ends that settle it, from 1, where this is answered.
abbrev pub end_place : Watch → Question → ℕ → Row → List ℕ
end_place watch question index row = place_of (row_settles watch question row) (index + 1)

unfoldable pub ends_named : Watch → Question → Answer → List Row → List ℕ
ends_named watch question it rows =
    if names_lines question it then codes ", ends" ++ each_from (end_place watch question) 0 rows else []

-- The whole line.
unfoldable pub sampled_text : Watch → Question → Answer → List Row → List ℕ
sampled_text watch question it rows =
    question_words question ++ (answer_words it ++ (ends_named watch question it rows ++ 10 ∷ []))
