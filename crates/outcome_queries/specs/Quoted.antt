-- Texts in which any name may stand in quotation marks. (This project's own choice.)
use Rattle.std.specs.Prelude.{ℕ, suc, ◌==◌, ◌&&◌, not, Bool, false, if◌then◌else◌, List, [], ◌∷◌, take}
use Rattle.std.specs.Prelude.{Option, Some, None, option_map}

-- Where a byte first stands outside of quotation marks; the text may begin inside of them. A mark opens or closes.
unfoldable pub place_outside : Bool → ℕ → List ℕ → Option ℕ
place_outside quoted byte [] = None
place_outside quoted byte (one ∷ rest) = if one == 39
    then option_map suc (place_outside (not quoted) byte rest)
    else if (one == byte) && not quoted then Some 0 else option_map suc (place_outside quoted byte rest)

-- What stands before it: all of the text where it doesn't stand there.
abbrev pub before_place : Option ℕ → List ℕ → List ℕ
before_place None text = text
before_place (Some place) text = take place text

abbrev pub field_outside : ℕ → List ℕ → List ℕ
field_outside byte text = before_place (place_outside false byte text) text
