-- How the terms of a condition are written. (This project's own choice.)
use Rattle.std.specs.Prelude.{◌≡◌, ℕ, ◌-◌, ◌≤◌, true, List, ◌∷◌, ◌++◌, length, take, drop, codes, Option, None, Some}
use Rattle.std.specs.{Char.is_ascii_whitespace, Fmt.decimal, List.prefix_len, List.suffix_len}
use Rattle.text_fields.specs.Values.{SpellsValue}
use Rattle.symbols.specs.Tables.{Table}
use Rattle.outcome_queries.specs.{declared.term.Term.Term, declared.term.Harts.Harts, declared.watched.Watched.Watched}
use Rattle.outcome_queries.specs.declared.relation.Relation.{Relation}
use Rattle.outcome_queries.specs.declared.relation.Relation.TheVariants.{Equal, Other}
use Rattle.outcome_queries.specs.{Watched.Spells, AtName.IsNowhere, Asking.Asks}
use Rattle.outcome_queries.specs.{declared.placed.Placed.Placed, Placed.SpellsPlaced}
use Rattle.outcome_queries.specs.{Relations.sign, Relations.is_equality, Printed.is_bytes, Printed.IsFree}
use Rattle.outcome_queries.specs.declared.refused.Expected.{Expected}
use Rattle.outcome_queries.specs.declared.refused.Expected.TheVariants as expected
use Rattle.outcome_queries.specs.declared.term.Term.TheVariants as terms
use Rattle.outcome_queries.specs.declared.term.Harts.TheVariants.{One, Each}

-- `h` and the number of a hart, or `h*`; `stopped`, and a cause where one is said.
pub record SpellsHart (text : List ℕ) (hart : ℕ) : Type 0 where
  pub in_range : hart ≤ 255
  pub spelled : text ≡ 104 ∷ decimal hart

abbrev pub SpellsHarts : List ℕ → Harts → Type 0
SpellsHarts text (One hart) = SpellsHart text hart
SpellsHarts text Each = text ≡ codes "h*"

pub record IsCause (text : List ℕ) (cause : ℕ) : Type 0 where
  pub in_range : cause ≤ 255
  pub spelled : text ≡ codes "stopped " ++ decimal cause

abbrev pub SpellsCause : List ℕ → Option ℕ → Type 0
SpellsCause text None = text ≡ codes "stopped"
SpellsCause text (Some cause) = IsCause text cause

-- What stands before the sign of a relation and what stands behind it are the term. Causes and bytes have no order.
abbrev pub Means : Table → List ℕ → Relation → List ℕ → Term → Type 0
Means names left sign right (terms.Ended harts relation number) =
    SpellsHarts left harts × SpellsValue right number × (relation ≡ sign)
Means names left sign right (terms.Stopped harts relation cause) =
    SpellsHarts left harts × SpellsCause right cause × (relation ≡ sign) × (is_equality sign ≡ true)
Means names left sign right (terms.Holds asked relation value) =
    Asks names left asked × SpellsValue right value × (relation ≡ sign)
Means names left sign right (terms.Put digits relation) = (left ≡ codes "out") × IsFree names left
    × (digits.now ≡ right) × (is_bytes right ≡ true) × (relation ≡ sign) × (is_equality sign ≡ true)

-- A term of how a hart ends, and one of what was put out.
abbrev pub IsOfEnd : Term → Type 0
IsOfEnd (terms.Holds asked relation value) = ⊥
IsOfEnd (terms.Put digits relation) = ⊥
IsOfEnd term = Unit {0}

abbrev pub IsPut : Term → Type 0
IsPut (terms.Put digits relation) = Unit {0}
IsPut term = ⊥

-- A text without the white space around it.
unfoldable pub trimmed : List ℕ → List ℕ
trimmed text =
    let inner = drop (prefix_len is_ascii_whitespace text) text in
    take (length inner - suffix_len is_ascii_whitespace inner) inner

pub record SaysTerm (names : Table) (text : List ℕ) (term : Term) : Type 0 where
  pub left : List ℕ
  pub relation : Relation
  pub right : List ℕ
  pub spelled : trimmed text ≡ left ++ (sign relation ++ right)
  pub means : Means names left relation right term

-- A place by a name and a number, whatever names there are.
pub record AsksPlace (left right : List ℕ) (placed : Placed) : Type 0 where
  pub spelled : SpellsPlaced left placed
  pub value : ℕ
  pub said : SpellsValue right value

-- What stands before and behind the sign is nothing that is watched and its number; or a place that is refused, and a
-- number.
abbrev pub HoldsNothing : Table → List ℕ → List ℕ → Expected → Type 0
HoldsNothing names left right expected.Term =
    ((one : Watched) (value : ℕ) → Spells left one → SpellsValue right value → ⊥)
    × ((placed : Placed) → AsksPlace left right placed → ⊥)
HoldsNothing names left right refused =
    (placed : Placed) × AsksPlace left right placed × IsNowhere names placed refused

-- What was expected of a term, where this was expected of what it names.
abbrev pub of_term : Expected → Expected
of_term expected.Watched = expected.Term
of_term expected = expected

-- The text is no term, however it is cut; or it is cut so that the place which it names is refused.
abbrev pub MeansNothing : Table → List ℕ → Relation → List ℕ → Expected → Type 0
MeansNothing names left relation right refused =
    ((term : Term) → IsOfEnd term → Means names left relation right term → ⊥)
    × ((term : Term) → IsPut term → Means names left relation right term → ⊥)
    × HoldsNothing names left right refused

abbrev pub IsNoTerm : Table → List ℕ → Expected → Type 0
IsNoTerm names text expected.Term = (left : List ℕ) (relation : Relation) (right : List ℕ)
    → trimmed text ≡ left ++ (sign relation ++ right) → MeansNothing names left relation right expected.Term
IsNoTerm names text refused = (left : List ℕ) × (relation : Relation) × (right : List ℕ)
    × (trimmed text ≡ left ++ (sign relation ++ right)) × MeansNothing names left relation right refused
