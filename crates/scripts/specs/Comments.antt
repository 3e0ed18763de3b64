-- Comments in scripts and orders. (This project's own choice.)
use Rattle.std.specs.Prelude.{ℕ, ◌==◌, Bool, true, false, not, ◌&&◌, ◌||◌, if◌then◌else◌, List, [], ◌∷◌}
use Rattle.scripts.specs.Script.{is_separator}

-- A byte is one of a comment: the byte before it is one, and it is no newline; or a word may start here, at
-- the start of the text or behind a separator, and it is a `#`.
abbrev pub is_commented : Bool → Bool → ℕ → Bool
is_commented commented starts byte = (commented && not (byte == 10)) || (starts && byte == 35)

-- What is left of a text: a space for each byte of a comment, and all other bytes as they are.
abbrev pub uncommented_from : Bool → Bool → List ℕ → List ℕ
uncommented_from commented starts [] = []
uncommented_from commented starts (byte ∷ others) =
    (if is_commented commented starts byte then 32 else byte)
    ∷ uncommented_from (is_commented commented starts byte) (is_separator byte) others

abbrev pub uncommented : List ℕ → List ℕ
uncommented text = uncommented_from false true text
