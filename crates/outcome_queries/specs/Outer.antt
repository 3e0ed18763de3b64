-- Where a byte stands outside of parentheses and quotation marks. (This project's own choice.)
use Rattle.std.specs.Prelude.{ℕ, suc, ◌+◌, ◌-◌, ◌==◌, ◌&&◌, not, Bool, false, if◌then◌else◌, List, [], ◌∷◌}
use Rattle.std.specs.Prelude.{Option, Some, None, option_map}
use Rattle.outcome_queries.specs.declared.outer.Inside.{Inside}

-- The byte is the wanted one, and nothing is around it.
abbrev pub stands_at : Inside → ℕ → ℕ → Bool
stands_at inside wanted byte = (byte == wanted) && (not inside.is_quoted && (inside.depth == 0))

-- What is around what stands behind a byte: a quotation mark opens or closes; parentheses count outside of these, and
-- one that closes none is passed over.
abbrev pub behind : Inside → ℕ → Inside
behind inside byte = if byte == 39 then record { is_quoted = not inside.is_quoted; depth = inside.depth }
    else if inside.is_quoted then inside
    else if byte == 40 then record { is_quoted = false; depth = inside.depth + 1 }
    else if byte == 41 then record { is_quoted = false; depth = inside.depth - 1 }
    else inside

-- Where a byte first stands so, in a text around which this is.
unfoldable pub place_in : Inside → ℕ → List ℕ → Option ℕ
place_in inside wanted [] = None
place_in inside wanted (byte ∷ rest) = if stands_at inside wanted byte then Some 0
    else option_map suc (place_in (behind inside byte) wanted rest)

abbrev pub outside : Inside
outside = record { is_quoted = false; depth = 0 }

abbrev pub outer_place : ℕ → List ℕ → Option ℕ
outer_place wanted text = place_in outside wanted text
