-- Where things stand in a picture, in its units. (This project's own choice.)
use Rattle.std.specs.Prelude.{ℕ, ◌+◌, ◌-◌, ◌*◌, ◌==◌, min, nat_lt, if◌then◌else◌}
use Rattle.story_pictures.specs.declared.geometry.Way.{Way}

-- The width of a box.
abbrev pub box_width : ℕ
box_width = 320

-- The left and the right edge of the boxes of hart h, and the middle of its lane.
abbrev pub lane_left : ℕ → ℕ
lane_left h = 64 + 470 * h

abbrev pub lane_right : ℕ → ℕ
lane_right h = lane_left h + box_width

abbrev pub lane_middle : ℕ → ℕ
lane_middle h = lane_left h + 160

-- The upper edge of the row at index i, and where its text stands.
abbrev pub row_top : ℕ → ℕ
row_top i = 120 + 34 * i

abbrev pub row_base : ℕ → ℕ
row_base i = row_top i + 16

-- Where an arrow leaves a row, and where it comes to one.
abbrev pub row_leaving : ℕ → ℕ
row_leaving i = row_top i + 18

abbrev pub row_coming : ℕ → ℕ
row_coming i = row_top i + 6

-- The page has room for what is said beside the last lane; and where the lanes end, and the page without its foot.
abbrev pub page_width : ℕ → ℕ
page_width harts = lane_left harts + 310

abbrev pub lanes_end : ℕ → ℕ
lanes_end rows = row_top rows + 4

abbrev pub foot_top : ℕ → ℕ
foot_top rows = row_top rows + 12

-- How far an arrow between two rows of a lane goes out of it: further where there are more rows between them.
abbrev pub bulge : ℕ → ℕ
bulge apart = 20 + 4 * min apart 10

-- An arrow from hart a's lane to hart b's is a curve with two points between its ends: here is how far to the right
-- each of the four is.
abbrev pub way_of : ℕ → ℕ → ℕ → Way
way_of a b apart =
    if a == b then record {
      from = lane_right a;
      near = lane_right a + bulge apart;
      far = lane_right a + bulge apart;
      to = lane_right a;
    }
    else (if nat_lt a b then record {
      from = lane_right a;
      near = lane_right a + 60;
      far = lane_left b - 60;
      to = lane_left b;
    }
    else record {
      from = lane_left a;
      near = lane_left a - 60;
      far = lane_right b + 60;
      to = lane_right b;
    })
