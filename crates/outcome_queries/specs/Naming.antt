-- The name in the first part of a list or of a condition. (This project's own choice.)
use Rattle.std.specs.Prelude.{◌≡◌, ℕ, List}
use Rattle.symbols.specs.declared.meanings.Name.{Name}
use Rattle.outcome_queries.specs.{Quoted.field_outside, Terms.trimmed, Placed.SpellsPlaced}
use Rattle.outcome_queries.specs.declared.placed.Placed.{Placed}

-- What stands before the first comma and `&`, and before the first sign of a relation (`=`, `<`, `>=`, `!=`) there,
-- without the white space around it.
abbrev pub first_asked : List ℕ → List ℕ
first_asked text = trimmed (field_outside 33 (field_outside 62 (field_outside 60 (field_outside 61
    (field_outside 38 (field_outside 44 text))))))

-- It is a place by this name.
abbrev pub AsksName : List ℕ → Name → Type 0
AsksName text name = (placed : Placed) × SpellsPlaced (first_asked text) placed × (placed.name ≡ name)
