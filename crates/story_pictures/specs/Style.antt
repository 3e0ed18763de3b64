-- The style of a picture, and what stands over its lanes. (This project's own choice; the colours are ones that the
-- colour-blind can tell: Okabe and Ito, "Color Universal Design", 2008.)
use Rattle.std.specs.Prelude.{ℕ, List, [], ◌++◌, codes}
use Rattle.story_pictures.specs.declared.form.Theme.{Theme}
use Rattle.story_pictures.specs.declared.form.Theme.TheVariants.{Automatic, Light, Dark}

unfoldable pub light_rules : List ℕ
light_rules = codes "text{font:12px monospace;fill:#1b1b1b}\n.page{fill:#ffffff}\n.far{fill:#5b5b5b}\n.name{font:bold 13px monospace;text-anchor:middle}\n.count{fill:#5b5b5b;text-anchor:end}\n.lane{stroke:#c4c8ce;stroke-dasharray:2 4}\n.box{fill:#f4f4f4;stroke:#8a8a8a}\n.reads{fill:#e3f1fb;stroke:#0072b2}\n.writes{fill:#fdeed3;stroke:#b57b00}\n.both{fill:#ddf3eb;stroke:#009e73}\n.over{fill:#ffffff;stroke-dasharray:5 3}\n.stuck{stroke:#8e3a8c;stroke-width:2.6}\n.fault{fill:#fbd9cf;stroke:#c22f00;stroke-width:3}\n.mark{stroke:#ffffff;stroke-width:4;paint-order:stroke}\n.over-is{fill:#5b5b5b}\n.stuck-is{font:bold 12px monospace;fill:#8e3a8c}\n.fault-is{font:bold 12px monospace;fill:#c22f00}\n.arrow{fill:none;stroke:#6b7280;stroke-width:1.5}\n.point{fill:#6b7280}\n"

unfoldable pub dark_rules : List ℕ
dark_rules = codes "text{fill:#ececec}\n.page{fill:#16181d}\n.far,.count{fill:#a2a7b0}\n.lane{stroke:#434956}\n.box{fill:#23262e;stroke:#747b88}\n.reads{fill:#16303f;stroke:#56b4e9}\n.writes{fill:#3a2e14;stroke:#e6a830}\n.both{fill:#143329;stroke:#2fc79b}\n.over{fill:#16181d}\n.stuck{stroke:#e08fdd}\n.fault{fill:#4a1d10;stroke:#ff8257}\n.mark{stroke:#16181d}\n.over-is{fill:#a2a7b0}\n.stuck-is{fill:#e08fdd}\n.fault-is{fill:#ff8257}\n.arrow{stroke:#9aa3b2}\n.point{fill:#9aa3b2}\n"

-- The dark rules stand behind the light ones, and go over them.
unfoldable pub rules_in_the_dark : List ℕ
rules_in_the_dark = codes "@media (prefers-color-scheme:dark){\n" ++ (dark_rules ++ codes "}\n")

abbrev pub more_rules : Theme → List ℕ
more_rules Automatic = rules_in_the_dark
more_rules Light = []
more_rules Dark = dark_rules

unfoldable pub style_text : Theme → List ℕ
style_text theme = codes "<style>\n" ++ (light_rules ++ more_rules theme)

-- The end of the style, the page, the point of an arrow, and what arrows and colours mean.
unfoldable pub legend_text : List ℕ
legend_text = codes "</style>\n<rect class=\"page\" width=\"100%\" height=\"100%\"/>\n<marker id=\"point\" viewBox=\"0 0 8 8\" refX=\"7\" refY=\"4\" markerUnits=\"userSpaceOnUse\" markerWidth=\"11\" markerHeight=\"11\" orient=\"auto\"><path class=\"point\" d=\"M0 0L8 4L0 8z\"/></marker>\n<text class=\"far\" x=\"16\" y=\"22\">Time goes down. An arrow leads from a write to each read that found its number.</text>\n<text class=\"far\" x=\"16\" y=\"40\">A read without an arrow found what was there at the start.</text>\n<rect class=\"box reads\" x=\"16\" y=\"52\" width=\"14\" height=\"12\"/><text class=\"far\" x=\"36\" y=\"62\">reads</text>\n<rect class=\"box writes\" x=\"92\" y=\"52\" width=\"14\" height=\"12\"/><text class=\"far\" x=\"112\" y=\"62\">writes</text>\n<rect class=\"box both\" x=\"176\" y=\"52\" width=\"14\" height=\"12\"/><text class=\"far\" x=\"196\" y=\"62\">reads and writes</text>\n<rect class=\"box writes over\" x=\"332\" y=\"52\" width=\"14\" height=\"12\"/><text class=\"far\" x=\"352\" y=\"62\">overwritten before anyone read it</text>\n<rect class=\"box writes fault\" x=\"610\" y=\"52\" width=\"14\" height=\"12\"/><text class=\"far\" x=\"630\" y=\"62\">last lost update, or ABA</text>\n"
