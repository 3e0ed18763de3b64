-- A condition that is refused, by the part that is.
use Rattle.std.proofs.Common.{◌≡◌, ℕ, suc, ◌+◌, ◌-◌, ◌≤◌, inl, inr, true, List, [], ◌∷◌, ◌++◌, length, take, drop}
use Rattle.std.proofs.Common.{IfOk, Result, Ok, Err, refl, sym, ap, subst, ◌∙◌, arith}
use Rattle.std.proofs.lemmas.List.{length-append, take_rest}
use Rattle.std.specs.{Char.is_ascii_whitespace, List.prefix_len}
use Rattle.symbols.specs.Tables.{Table}
use Rattle.outcome_queries.specs.declared.condition.Joint.{Joint}
use Rattle.outcome_queries.specs.declared.condition.Condition.{Condition, Holds, Not', Grouped', Joined'}
use Rattle.outcome_queries.specs.declared.parsing.{Place.Place, Read.Read}
use Rattle.outcome_queries.specs.declared.refused.{Expected.Expected, QueryRefused.QueryRefused}
use Rattle.outcome_queries.specs.declared.refused.ConditionRefused.{ConditionRefused}
use Rattle.outcome_queries.specs.declared.refused.ConditionRefused.TheVariants.{Text, Memory}
use Rattle.outcome_queries.specs.declared.refused.Expected.TheVariants as expected
use Rattle.outcome_queries.specs.{Terms.trimmed, Making.IsJoining}
use Rattle.outcome_queries.specs.Conditions.{IsJoint, Says, StandsAlone, terms_in}
use Rattle.outcome_queries.specs.ConditionRefusals.{IsInnerRefusal, IsRefusal, IsRefused, Opens, at_start, behind}
use Rattle.outcome_queries.specs.ConditionRefusals.{sign_column, within}
use Rattle.outcome_queries.specs.ConditionRefusals.{Path, here, before_joint, behind_joint, inner}

-- the part before the joint is refused
pub before_refused : (names : Table) (text : List ℕ) (place : Place) (joint : Joint) (cut : ℕ) (why : ConditionRefused)
    → IsJoint text joint cut → IsRefusal names (take cut text) place why → IsRefusal names text place why
before_refused names text place joint cut (Text why) at is = (before_joint is.0, (joint, cut, at, is.1))
before_refused names text place joint cut Memory at is = tt

-- the part behind it is, whose place follows from the number of terms before it
pub behind_refused : (names : Table) (text : List ℕ) (place : Place) (joint : Joint) (cut count : ℕ) (first : Condition)
    (why : ConditionRefused) → IsJoint text joint cut → Says names first (take cut text)
    → count ≡ place.before + length (terms_in first)
    → IsRefusal names (take (length text - (cut + 1)) (drop (cut + 1) text))
    (record { column = place.column + cut + 1; before = count; levels = place.levels }) why
    → IsRefusal names text place why
behind_refused names text place joint cut count first (Text why) at says counted is =
    let next : cut + 1 ≡ suc cut = omega arith in (
      behind_joint first is.0,
      (
        joint,
        cut,
        at,
        says,
        subst (λ n. IsRefused names is.0 (drop n text) (behind place cut first) why) next
            (subst (λ n. IsRefused names is.0 (drop (cut + 1) text)
            (record { column = place.column + cut + 1; before = n; levels = place.levels }) why) counted
            (subst (λ (t : List ℕ). IsRefused names is.0 t
            (record { column = place.column + cut + 1; before = count; levels = place.levels }) why)
            (take_rest text (cut + 1)) is.1)),
      ),
    )
behind_refused names text place joint cut count first Memory at says counted is = tt

-- what stands behind a sign is
pub inner_refused : (names : Table) (text trim rest : List ℕ) (place : Place) (column : ℕ) (why : ConditionRefused)
    → StandsAlone text → trim ≡ trimmed text → Opens trim rest → column ≡ sign_column place text
    → IsInnerRefusal names rest place column why → IsRefusal names text place why
inner_refused names text trim rest place column why alone is opens at (inl told) =
    subst (λ w. IsRefusal names text place w) (sym told.1)
    (here, (alone, (rest, subst (λ t. Opens t rest) is opens, told.0, at)))
inner_refused names text trim rest place column (Text why) alone is opens at (inr told) = (
  inner told.1.0,
  (
    alone,
    rest,
    subst (λ t. Opens t rest) is opens,
    told.0,
    subst (λ n. IsRefused names told.1.0 rest (within place n) why) at told.1.1,
  ),
)
inner_refused names text trim rest place column Memory alone is opens at (inr told) = tt

-- how many terms two conditions have
joined_terms : (joint : Joint) (first others whole : Condition) → IsJoining joint first others whole
    → length (terms_in whole) ≡ length (terms_in first) + length (terms_in others)
joined_terms joint first others (Joined' j p a q b) is =
    length-append (terms_in a) (terms_in b)
    ∙ ap (λ c. length (terms_in c) + length (terms_in b)) is.1
    ∙ ap (λ c. length (terms_in first) + length (terms_in c)) is.2
joined_terms joint first others (Holds term) is = absurd is
joined_terms joint first others (Not' p c) is = absurd is
joined_terms joint first others (Grouped' p c) is = absurd is

pub joined_count : (joint : Joint) (first others : Condition) (before one both : ℕ)
    (read : Result Read ConditionRefused) → one ≡ before + length (terms_in first)
    → both ≡ one + length (terms_in others) → IfOk read (λ r. IsJoining joint first others r.condition)
    → IfOk read (λ r. r.count ≡ both) → IfOk read (λ r. r.count ≡ before + length (terms_in r.condition))
joined_count joint first others before one both (Ok read) is_one is_both made counted =
    let more = joined_terms joint first others read.condition made in omega (arith, is_one, is_both, counted, more)
joined_count joint first others before one both (Err why) is_one is_both made counted = tt
