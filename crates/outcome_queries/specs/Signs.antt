-- Where the sign of a term's relation stands. (This project's own choice.)
use Rattle.std.specs.Prelude.{◌≡◌, ℕ, suc, false, List, [], ◌∷◌, ◌++◌, length, Some, None}
use Rattle.outcome_queries.specs.Quoted.{place_outside}
use Rattle.outcome_queries.specs.declared.relation.Relation.{Relation}
use Rattle.outcome_queries.specs.declared.relation.Relation.TheVariants.{Equal, Other, Below, AtLeast}

-- What stands before the equals sign in it.
abbrev pub mark : Relation → List ℕ
mark Equal = []
mark Other = 33 ∷ []
mark Below = []
mark AtLeast = 62 ∷ []

-- The text doesn't end with `!` or `>`.
abbrev pub EndsPlain : List ℕ → Type 0
EndsPlain text = (before : List ℕ) (relation : Relation) → text ≡ before ++ mark relation → mark relation ≡ []

-- A text is what stands before an equals sign and the mark right before that.
abbrev pub IsMarkCut : List ℕ → List ℕ → Relation → Type 0
IsMarkCut before left Equal = (before ≡ left) × EndsPlain before
IsMarkCut before left Below = ⊥
IsMarkCut before left relation = before ≡ left ++ mark relation

-- The sign is that of the first equals sign outside of quotation marks; or there is none, and it is the first `<`.
abbrev pub IsFirstSign : Relation → List ℕ → List ℕ → Type 0
IsFirstSign Below left text = (place_outside false 61 text ≡ None) × (Some (length left) ≡ place_outside false 60 text)
IsFirstSign relation left text = (before : List ℕ) × IsMarkCut before left relation
    × (Some (length before) ≡ place_outside false 61 text)
