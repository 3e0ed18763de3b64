-- Parts of the file. (SVG 1.1: paths, texts.)
use Rattle.std.specs.Prelude.{ℕ, List, ◌∷◌, ◌++◌, codes}
use Rattle.std.specs.Fmt.{decimal}

-- A point: how far to the right, and how far down.
unfoldable pub point_text : ℕ → ℕ → List ℕ
point_text x y = decimal x ++ (32 ∷ decimal y)

-- An attribute with a number.
unfoldable pub place_attributes : ℕ → ℕ → List ℕ
place_attributes x y = codes "x=\"" ++ (decimal x ++ (codes "\" y=\"" ++ (decimal y ++ codes "\"")))

-- The beginning of a text of these classes that stands at a point.
unfoldable pub open_text : List ℕ → ℕ → ℕ → List ℕ
open_text class x y = codes "<text class=\"" ++ (class ++ (codes "\" " ++ (place_attributes x y ++ codes ">")))

abbrev pub close_text : List ℕ
close_text = codes "</text>\n"
