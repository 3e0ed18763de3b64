-- The line of an outcome. (This project's own choice.)
use Rattle.std.specs.Prelude.{ℕ, ◌==◌, ◌&&◌, if◌then◌else◌, List, [], ◌∷◌, ◌++◌, codes, flat_map, length, slice_index}
use Rattle.std.specs.{Fmt.decimal}
use Rattle.text_fields.specs.Spelling.{hex}
use Rattle.text_fields.specs.Each.{each_from}
use Rattle.smt_model.specs.{declared.config.Status.Status, declared.config.Status.TheVariants.Going}
use Rattle.smt_model.specs.{declared.config.Status.TheVariants.Ended}
use Rattle.smt_model.specs.{declared.config.Status.TheVariants.Stopped}
use Rattle.shown_text.specs.Shown.{shown}
use Rattle.watched_outcomes.specs.{Endings.Ending}
use Rattle.outcome_queries.specs.declared.watched.Asked.{Asked}

-- How each hart has ended.
abbrev pub comma_of : ℕ → List ℕ
comma_of index = if index == 0 then [] else codes ", "

abbrev pub status_words : Status → List ℕ
status_words Going = codes "going"
status_words (Ended number) = codes "ended " ++ decimal number
status_words (Stopped cause) = codes "stopped " ++ decimal cause

abbrev pub status_text : ℕ → Status → List ℕ
status_text index status = comma_of index ++ status_words status

-- What is watched: the registers, and behind them the places in memory, each as it was asked for, with its number.
unfoldable pub column_lead : ℕ → ℕ → List ℕ
column_lead before index = if (before == 0) && (index == 0) then codes "; " else codes ", "

abbrev pub column_text : ℕ → ℕ → Asked → ℕ → List ℕ
column_text before index asked number =
    column_lead before index ++ (shown asked.spelled.now ++ (61 ∷ decimal number))

abbrev pub columns_text : ℕ → List Asked → List ℕ → List ℕ
columns_text before columns numbers =
    each_from (λ index asked. column_text before index asked (slice_index numbers index)) 0 columns

abbrev pub watched_text : List Asked → List Asked → Ending → List ℕ
watched_text registers words ending =
    columns_text 0 registers ending.registers ++ columns_text (length registers) words ending.words

-- The bytes that were put out, two hexadecimal digits each.
abbrev pub output_lead : List ℕ → List ℕ
output_lead [] = []
output_lead (byte ∷ others) = codes "; output "

abbrev pub output_text : List ℕ → List ℕ
output_text output = output_lead output ++ flat_map (hex 2) output

-- The whole line.
unfoldable pub outcome_line : List Asked → List Asked → Ending → List ℕ
outcome_line registers words ending = each_from status_text 0 ending.statuses
    ++ (columns_text 0 registers ending.registers
    ++ (columns_text (length registers) words ending.words
    ++ (output_text ending.output ++ 10 ∷ [])))
