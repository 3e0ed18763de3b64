-- How a picture goes on behind its title, and how it ends.
use Rattle.std.specs.Prelude.{ℕ, List, ◌++◌, codes}

-- The end of the style, and the page behind all that is drawn.
unfoldable pub page_text : List ℕ
page_text = codes "</style>\n<rect class=\"page\" width=\"100%\" height=\"100%\"/>\n"

abbrev pub style_text : List ℕ → List ℕ
style_text rules = codes "<style>\n" ++ (rules ++ page_text)

abbrev pub end_text : List ℕ
end_text = codes "</svg>\n"
