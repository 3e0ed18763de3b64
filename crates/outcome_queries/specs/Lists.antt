-- Lists in a text: each part says one thing, and a separator stands between two.
use Rattle.std.specs.Prelude.{◌≡◌, ℕ, ◌+◌, List, [], ◌∷◌, ◌++◌, length}
use Rattle.outcome_queries.specs.Quoted.{field_outside}
use Rattle.outcome_queries.specs.declared.refused.{QueryRefused.QueryRefused, Expected.Expected}
use Rattle.outcome_queries.specs.declared.refused.Expected.TheVariants as expected

-- The text says these things, in order; one at least. What a part says is told by `Says`.
abbrev pub IsSeparated : {A : Type 0} → (List ℕ → A → Type 0) → ℕ → List ℕ → List A → Type 0
IsSeparated Says separator text [] = ⊥
IsSeparated Says separator text (one ∷ []) = Says text one
IsSeparated Says separator text (one ∷ next ∷ others) = (first : List ℕ) × (rest : List ℕ)
    × (text ≡ first ++ separator ∷ rest) × Says first one × IsSeparated Says separator rest (next ∷ others)

-- The text says these things, in order, and a separator stands behind each.
abbrev pub IsLed : {A : Type 0} → (List ℕ → A → Type 0) → ℕ → List ℕ → List A → Type 0
IsLed Says separator text [] = text ≡ []
IsLed Says separator text (one ∷ others) = (first : List ℕ) × (rest : List ℕ)
    × (text ≡ first ++ separator ∷ rest) × Says first one × IsLed Says separator rest others

-- A part behind so many others is refused: it says nothing, as `Denies` tells by what was expected there; or it says
-- something, and there is no room.
abbrev pub IsPartRefused : {A : Type 0} → (List ℕ → A → Type 0) → (List ℕ → Expected → Type 0) → ℕ → List ℕ → Expected
    → Type 0
IsPartRefused {A} Says Denies count part expected.End = (one : A) × Says part one × (count ≡ 64)
IsPartRefused Says Denies count part expected = Denies part expected

-- So is a text, at the column at which its first such part begins. A separator in quotation marks separates nothing.
pub record IsRefusedFor {A : Type 0} (Says : List ℕ → A → Type 0) (Denies : List ℕ → Expected → Type 0) (separator : ℕ)
    (text : List ℕ) (refused : QueryRefused) : Type 0 where
  pub before : List ℕ
  pub said : List A
  pub rest : List ℕ
  pub whole : text ≡ before ++ rest
  pub led : IsLed Says separator before said
  pub part : IsPartRefused Says Denies (length said) (field_outside separator rest) refused.expected
  pub place : refused.column ≡ length before + 1
