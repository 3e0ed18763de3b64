-- What is printed of the outcomes that a search has found. (This project's own choice, after the tools
-- for litmus tests.)
use Rattle.std.specs.Prelude.{ℕ, Bool, true, false, List, ◌++◌, codes, length, Option}
use Rattle.std.specs.Fmt.{decimal}
use Rattle.report_lines.specs.Lines.{count_line}
use Rattle.searches.specs.declared.extent.Extent.{Extent}
use Rattle.searches.specs.declared.extent.Extent.TheVariants.{Whole, Beyond, First}
use Rattle.outcomes.specs.{Found.Told, Found.Found}
use Rattle.outcome_queries.specs.declared.watched.Asked.{Asked}
use Rattle.text_fields.specs.Each.{each_from}
use Rattle.outcome_text.specs.{Line.outcome_line, Unwritten.unwritten_text, How.how_text, declared.how.How.How}

-- Whether each state can go on to an end.
abbrev pub ends_text : Bool → List ℕ
ends_text true = codes "stuck\n"
ends_text false = codes "always can end\n"

-- What is said of all outcomes: that these are all, whether there is a state that can't go on to an end, and which places
-- are watched for nothing.
unfoldable pub whole_text : List Asked → List Bool → Bool → List ℕ
whole_text words unwritten is_stuck =
    codes "complete\n" ++ (ends_text is_stuck ++ each_from (unwritten_text unwritten) 0 words)

-- What is said where there are more states than were to be looked at.
unfoldable pub incomplete_text : ℕ → List ℕ
incomplete_text states = codes "not complete: more than " ++ (decimal states ++ codes " states\n")

-- Which of these it is; a search that was to end with a first outcome says that. The answer of a whole search stands
-- behind that, of a part before it.
abbrev pub extent_text : List Asked → List Bool → Bool → ℕ → List ℕ → Extent → List ℕ
extent_text words unwritten is_stuck budget answer Whole = whole_text words unwritten is_stuck ++ answer
extent_text words unwritten is_stuck budget answer Beyond = answer ++ incomplete_text budget
extent_text words unwritten is_stuck budget answer First = answer ++ codes "not complete: first\n"

-- The whole text: a line for each outcome, how many there are, how many states were found, and of other searches, where
-- that is asked, whether these are all, and the answer to the question, if there is one.
abbrev pub told_line : List Asked → List Asked → ℕ → Told → List ℕ
told_line registers words index told = outcome_line registers words told.ending

unfoldable pub outcomes_text : List Asked → List Asked → Found → Bool → ℕ → Option How → List ℕ → List ℕ
outcomes_text registers words found is_stuck budget how answer = each_from (told_line registers words) 0 found.listed
    ++ (count_line (codes "outcomes") (length found.listed)
    ++ (count_line (codes "states") found.states
    ++ (how_text how
    ++ extent_text words found.unwritten is_stuck budget answer found.extent)))
