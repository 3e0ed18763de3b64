-- The arrows from writes to the reads that found them. (This project's own choice of how they are drawn.)
use Rattle.std.specs.Prelude.{ℕ, ◌-◌, if◌then◌else◌, List, [], ◌++◌, codes, length, take}
use Rattle.text_fields.specs.Each.{each_from}
use Rattle.stories.specs.declared.row.Row.{Row}
use Rattle.story_pictures.specs.{Relations.reads_from, Geometry.row_coming, Geometry.row_leaving, Geometry.way_of}
use Rattle.story_pictures.specs.{Elements.point_text, declared.geometry.Way.Way}

unfoldable pub curve_begin : Way → ℕ → List ℕ
curve_begin way y =
    codes "<path class=\"arrow\" marker-end=\"url(#point)\" d=\"M"
    ++ (point_text way.from y ++ (codes "C" ++ point_text way.near y))

unfoldable pub curve_end : Way → ℕ → List ℕ
curve_end way y = codes " " ++ (point_text way.far y ++ (codes " " ++ (point_text way.to y ++ codes "\"/>\n")))

abbrev pub curve_text : Way → ℕ → ℕ → List ℕ
curve_text way y to_y = curve_begin way y ++ curve_end way to_y

-- From the row at index i, of hart a, to the one at index j, of hart b.
abbrev pub arrow_text : ℕ → ℕ → ℕ → ℕ → List ℕ
arrow_text i a j b = curve_text (way_of a b (j - i)) (row_leaving i) (row_coming j)

-- An arrow to a read from one of the rows before it, where it reads from that.
abbrev pub arrow_from : List Row → Row → ℕ → Row → List ℕ
arrow_from earlier read i write =
    if reads_from earlier i write read then arrow_text i write.hart (length earlier) read.hart else []

abbrev pub arrows_to : List Row → Row → List ℕ
arrows_to earlier read = each_from (arrow_from earlier read) 0 earlier

-- All arrows of a story.
abbrev pub arrows_at : List Row → ℕ → Row → List ℕ
arrows_at rows j read = arrows_to (take j rows) read

abbrev pub arrows_text : List Row → List ℕ
arrows_text rows = each_from (arrows_at rows) 0 rows
