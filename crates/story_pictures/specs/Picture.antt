-- The picture of a story. (This project's own choice.)
use Rattle.std.specs.Prelude.{ℕ, ◌+◌, List, ◌++◌, codes, flat_map, length}
use Rattle.std.specs.Fmt.{decimal}
use Rattle.smt_model.specs.Basics.{below}
use Rattle.svg_drawing.specs.Page.{end_text}
use Rattle.stories.specs.declared.row.Row.{Row}
use Rattle.story_pictures.specs.{Form.Plan, Geometry.lane_middle, Geometry.foot_top, Geometry.lanes_end}
use Rattle.story_pictures.specs.{Geometry.page_width, Foot.foot_height, Foot.foot_text}
use Rattle.story_pictures.specs.{Elements.point_text, Elements.open_text, Elements.close_text}
use Rattle.story_pictures.specs.{Style.style_text, Style.legend_text, Arrows.arrows_text, Boxes.boxes_text}

-- The beginning of the file: the size of the page, and the title.
unfoldable pub view_text : ℕ → ℕ → List ℕ
view_text width height = codes "\" viewBox=\"0 0 " ++ (point_text width height
    ++ codes "\">\n<title>The story of an order of harts</title>\n")

unfoldable pub begin_text : ℕ → ℕ → List ℕ
begin_text width height =
    codes "<svg xmlns=\"http://www.w3.org/2000/svg\" width=\"" ++ (decimal width
    ++ (codes "\" height=\"" ++ (decimal height ++ view_text width height)))

-- The lane of hart h, down to this height, and its name.
unfoldable pub lane_line : ℕ → ℕ → List ℕ
lane_line height h = codes "<path class=\"lane\" d=\"M" ++ (point_text (lane_middle h) 104
    ++ (codes "V" ++ (decimal height ++ codes "\"/>\n")))

unfoldable pub lane_name : ℕ → List ℕ
lane_name h = open_text (codes "name") (lane_middle h) 96 ++ (codes "hart " ++ (decimal h ++ close_text))

abbrev pub lane_text : ℕ → ℕ → List ℕ
lane_text height h = lane_line height h ++ lane_name h

abbrev pub lanes_text : ℕ → ℕ → List ℕ
lanes_text height harts = flat_map (lane_text height) (below harts)

-- The whole: arrows lie below the boxes, and the foot stands below the lanes.
abbrev pub page_height : Plan → ℕ → ℕ
page_height plan rows = foot_top rows + foot_height plan.foot

unfoldable pub picture_head : Plan → List Row → List ℕ
picture_head plan rows = begin_text (page_width plan.harts) (page_height plan (length rows))
    ++ (style_text plan.theme ++ legend_text)

unfoldable pub picture_body : Plan → List Row → List ℕ
picture_body plan rows = lanes_text (lanes_end (length rows)) plan.harts
    ++ (arrows_text rows ++ (boxes_text plan rows ++ (foot_text plan.foot (foot_top (length rows)) ++ end_text)))

abbrev pub picture_text : Plan → List Row → List ℕ
picture_text plan rows = picture_head plan rows ++ picture_body plan rows
