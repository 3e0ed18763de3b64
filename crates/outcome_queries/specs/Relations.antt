-- How numbers are compared. (This project's own choice.)
use Rattle.std.specs.Prelude.{ℕ, ◌==◌, nat_lt, nat_le, Bool, true, false, not, List, [], ◌∷◌, Option, Some, None}
use Rattle.outcome_queries.specs.declared.relation.Relation.{Relation}
use Rattle.outcome_queries.specs.declared.relation.Relation.TheVariants.{Equal, Other, Below, AtLeast}

-- How they are written: `=`, `!=`, `<`, `>=`.
abbrev pub sign : Relation → List ℕ
sign Equal = 61 ∷ []
sign Other = 33 ∷ 61 ∷ []
sign Below = 60 ∷ []
sign AtLeast = 62 ∷ 61 ∷ []

-- A number that was found is the one that is said; where none was found, none is.
abbrev pub is_value : Option ℕ → ℕ → Bool
is_value None value = false
is_value (Some number) value = number == value

-- It is less, or at least as great.
abbrev pub is_below : Option ℕ → ℕ → Bool
is_below None value = false
is_below (Some number) value = nat_lt number value

abbrev pub is_at_least : Option ℕ → ℕ → Bool
is_at_least None value = false
is_at_least (Some number) value = nat_le value number

-- It is as a term says: `!=` holds wherever `=` doesn't.
abbrev pub compares : Relation → Option ℕ → ℕ → Bool
compares Equal found value = is_value found value
compares Other found value = not (is_value found value)
compares Below found value = is_below found value
compares AtLeast found value = is_at_least found value

-- So is what has no order: it is so, or with `!=` not so.
abbrev pub is_told : Relation → Bool → Bool
is_told Equal is_so = is_so
is_told Other is_so = not is_so
is_told relation is_so = false

abbrev pub is_equality : Relation → Bool
is_equality Equal = true
is_equality Other = true
is_equality relation = false
