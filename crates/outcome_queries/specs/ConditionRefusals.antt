-- Where a text is refused that says no condition, and why. (This project's own choice.)
use Rattle.std.specs.Prelude.{◌≡◌, ◌⊎◌, ℕ, suc, ◌+◌, ◌-◌, ◌≤◌, true, List, [], ◌∷◌, ◌++◌, length, take, drop}
use Rattle.std.specs.{Char.is_ascii_whitespace, List.prefix_len}
use Rattle.symbols.specs.Tables.{Table}
use Rattle.outcome_queries.specs.declared.term.Term.{Term}
use Rattle.outcome_queries.specs.declared.condition.{Joint.Joint, Condition.Condition}
use Rattle.outcome_queries.specs.declared.parsing.Place.{Place}
use Rattle.outcome_queries.specs.declared.refused.{Expected.Expected, QueryRefused.QueryRefused}
use Rattle.outcome_queries.specs.declared.refused.ConditionRefused.{ConditionRefused}
use Rattle.outcome_queries.specs.declared.refused.ConditionRefused.TheVariants.{Text, Memory}
use Rattle.outcome_queries.specs.declared.refused.Expected.TheVariants as expected
use Rattle.outcome_queries.specs.{Terms.trimmed, Terms.SaysTerm, Terms.IsNoTerm}
use Rattle.outcome_queries.specs.Conditions.{IsJoint, IsUnclosed, Says, StandsAlone, begins_term, terms_in}

-- All of a condition: of 32 terms and 16 levels of `!` and parentheses.
abbrev pub at_start : Place
at_start = record { column = 1; before = 0; levels = 16 }

-- What stands behind a joint, and the condition before that; and what stands behind `!` or `(`.
abbrev pub behind : Place → ℕ → Condition → Place
behind place cut first = record {
  column = place.column + cut + 1;
  before = place.before + length (terms_in first);
  levels = place.levels;
}

abbrev pub within : Place → ℕ → Place
within place column = record { column = column + 1; before = place.before; levels = place.levels - 1 }

-- The column of what stands alone, behind the white space before it.
abbrev pub sign_column : Place → List ℕ → ℕ
sign_column place text = place.column + prefix_len is_ascii_whitespace text

-- It is `!` or a parenthesis around this.
abbrev pub Opens : List ℕ → List ℕ → Type 0
Opens text rest = (text ≡ 33 ∷ rest) ⊎ (text ≡ 40 ∷ (rest ++ 41 ∷ []))

-- A term is refused: it is none, or there are 32 before it.
abbrev pub IsLeafRefused : Table → List ℕ → Place → Expected → Type 0
IsLeafRefused names text place expected.Terms = (term : Term) × SaysTerm names text term × (32 ≤ place.before)
IsLeafRefused names text place refused = IsNoTerm names text refused

-- What stands alone is refused, at a column: too many levels; a parenthesis that isn't closed at its end; or as a term.
abbrev pub IsAloneRefused : Table → List ℕ → Place → ℕ → Expected → Type 0
IsAloneRefused names text place column expected.Levels =
    (rest : List ℕ) × Opens (trimmed text) rest × (place.levels ≡ 0) × (column ≡ sign_column place text)
IsAloneRefused names text place column expected.Closing =
    IsUnclosed (trimmed text) × (column ≡ sign_column place text)
IsAloneRefused names text place column refused = (begins_term (trimmed text) ≡ true)
    × IsLeafRefused names text place refused × (column ≡ place.column)

-- The way to the part that is refused: it is all of the text, or in the part before the first joint, or behind that
-- where what stands before it is a condition, or behind `!` or in parentheses.
pub data Path : Type 0 where
  here : Path
  before_joint : Path → Path
  behind_joint : Condition → Path → Path
  inner : Path → Path

abbrev pub IsRefused : Table → Path → List ℕ → Place → QueryRefused → Type 0
IsRefused names here text place why = StandsAlone text × IsAloneRefused names text place why.column why.expected
IsRefused names (before_joint path) text place why = (joint : Joint) × (cut : ℕ) × IsJoint text joint cut
    × IsRefused names path (take cut text) place why
IsRefused names (behind_joint first path) text place why = (joint : Joint) × (cut : ℕ) × IsJoint text joint cut
    × Says names first (take cut text) × IsRefused names path (drop (suc cut) text) (behind place cut first) why
IsRefused names (inner path) text place why = StandsAlone text × (rest : List ℕ) × Opens (trimmed text) rest
    × (1 ≤ place.levels) × IsRefused names path rest (within place (sign_column place text)) why

-- The text is refused; or there isn't enough memory.
abbrev pub IsRefusal : Table → List ℕ → Place → ConditionRefused → Type 0
IsRefusal names text place (Text why) = (path : Path) × IsRefused names path text place why
IsRefusal names text place Memory = Unit {0}

-- So is what stands behind `!` or `(` at a column, where that may be one level deeper.
abbrev pub IsInnerRefusal : Table → List ℕ → Place → ℕ → ConditionRefused → Type 0
IsInnerRefusal names text place column why =
    ((place.levels ≡ 0) × (why ≡ Text (record { column = column; expected = expected.Levels })))
    ⊎ ((1 ≤ place.levels) × IsRefusal names text (within place column) why)

-- So is a term.
abbrev pub IsLeafRefusal : Table → List ℕ → Place → ConditionRefused → Type 0
IsLeafRefusal names text place (Text why) =
    IsLeafRefused names text place why.expected × (why.column ≡ place.column)
IsLeafRefusal names text place Memory = ⊥
