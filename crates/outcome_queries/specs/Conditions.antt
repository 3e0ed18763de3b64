-- Conditions and the texts that say them. (This project's own choice, after the conditions of litmus tests: `!` binds
-- most, then `&`, then `|`.)
use Rattle.std.specs.Prelude.{◌≡◌, ℕ, suc, ◌+◌, max, ◌==◌, ◌||◌, not, Bool, true, List, [], ◌∷◌, ◌++◌, take, drop}
use Rattle.std.specs.Prelude.{Option, Some, None}
use Rattle.symbols.specs.Tables.{Table}
use Rattle.outcome_queries.specs.declared.term.Term.{Term}
use Rattle.outcome_queries.specs.declared.condition.Joint.{Joint}
use Rattle.outcome_queries.specs.declared.condition.Joint.TheVariants.{And, Or}
use Rattle.outcome_queries.specs.declared.condition.Condition.{Condition, Holds, Not', Grouped', Joined'}
use Rattle.outcome_queries.specs.{Outer.outer_place, Terms.trimmed, Terms.SaysTerm}

-- Its terms, in its order.
abbrev pub terms_in : Condition → List Term
terms_in (Holds term) = term ∷ []
terms_in (Not' p inner) = terms_in inner
terms_in (Grouped' p inner) = terms_in inner
terms_in (Joined' joint p first q others) = terms_in first ++ terms_in others

-- How many of its `!` and parentheses stand in one another.
abbrev pub levels_in : Condition → ℕ
levels_in (Holds term) = 0
levels_in (Not' p inner) = levels_in inner + 1
levels_in (Grouped' p inner) = levels_in inner + 1
levels_in (Joined' joint p first q others) = max (levels_in first) (levels_in others)

-- A text is cut at its first `|`, as it stands outside of parentheses and quotation marks; else at its first `&`.
abbrev pub IsJoint : List ℕ → Joint → ℕ → Type 0
IsJoint text Or place = outer_place 124 text ≡ Some place
IsJoint text And place = (outer_place 124 text ≡ None) × (outer_place 38 text ≡ Some place)

-- It isn't cut.
abbrev pub StandsAlone : List ℕ → Type 0
StandsAlone text = (outer_place 124 text ≡ None) × (outer_place 38 text ≡ None)

-- It begins a term: with neither `!` nor `(`.
abbrev pub begins_term : List ℕ → Bool
begins_term [] = true
begins_term (first ∷ rest) = not ((first == 33) || (first == 40))

-- A text that stands alone is a term; or `!` and what is denied; or a condition in parentheses.
abbrev pub Says : Table → Condition → List ℕ → Type 0
Says names (Holds term) text = StandsAlone text × (begins_term (trimmed text) ≡ true) × SaysTerm names text term
Says names (Not' p inner) text = StandsAlone text × (rest : List ℕ) × (trimmed text ≡ 33 ∷ rest) × Says names inner rest
Says names (Grouped' p inner) text =
    StandsAlone text × (rest : List ℕ) × (trimmed text ≡ 40 ∷ rest ++ 41 ∷ []) × Says names inner rest
Says names (Joined' joint p first q others) text = (place : ℕ) × IsJoint text joint place
    × Says names first (take place text) × Says names others (drop (suc place) text)

-- A parenthesis that isn't closed at the end.
abbrev pub IsUnclosed : List ℕ → Type 0
IsUnclosed text = (rest : List ℕ) × (text ≡ 40 ∷ rest) × ((inner : List ℕ) → rest ≡ inner ++ 41 ∷ [] → ⊥)
