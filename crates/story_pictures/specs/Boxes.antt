-- The box of a row in the lane of its hart. (This project's own choice.)
use Rattle.std.specs.Prelude.{ℕ, ◌+◌, ◌&&◌, ◌||◌, Bool, if◌then◌else◌, List, [], ◌++◌, codes, drop, is_some, Option}
use Rattle.std.specs.{Fmt.decimal}
use Rattle.text_fields.specs.Each.{each_from}
use Rattle.symbols.specs.Tables.{Table}
use Rattle.address_labels.specs.{Labels.Marks, Texts.labels_text}
use Rattle.address_labels.specs.declared.writing.Form.TheVariants.{Drawn}
use Rattle.stories.specs.{declared.row.Row.Row, declared.deed.Deed.Deed, Spans.written_span}
use Rattle.story_text.specs.Deeds.{address_text}
use Rattle.story_pictures.specs.{Form.Plan, Accesses.found_span, Relations.is_overwritten}
use Rattle.story_pictures.specs.{Relations.is_stuck, Notes.has_words, Notes.is_last_fault, Notes.note_at, Notes.note_words}
use Rattle.story_pictures.specs.declared.boxes.Look.{Look}
use Rattle.stories.specs.declared.recent.Note.{Note}
use Rattle.story_pictures.specs.{Geometry.lane_left, Geometry.lane_right, Geometry.row_base, Geometry.row_top}
use Rattle.story_pictures.specs.{Elements.open_text, Elements.close_text, Elements.place_attributes, Words.deed_words}

-- What a browser shows where one points at a row: what it shows, its pc, and what is wanted beside that.
unfoldable pub pc_text : Marks → ℕ → List ℕ
pc_text marks pc = address_text pc ++ (labels_text Drawn marks pc ++ codes "</title>\n")

unfoldable pub title_text : Table → Marks → Row → List ℕ
title_text names marks row =
    codes "<g><title>" ++ (deed_words names row.deed ++ (codes " at " ++ pc_text marks row.pc))

-- The number of a row, at the left of all lanes.
unfoldable pub count_text : ℕ → ℕ → List ℕ
count_text number i = open_text (codes "count") 46 (row_base i) ++ (decimal number ++ close_text)

-- The classes of a box: whether the row reads and writes; and how it looks: as a write that was overwritten, as where a
-- stuck order ends, and as the one that strikes the eye.
abbrev pub kind_class : Bool → Bool → List ℕ
kind_class reads writes =
    if reads then (if writes then codes " both" else codes " reads") else (if writes then codes " writes" else [])

abbrev pub class_if : Bool → List ℕ → List ℕ
class_if holds class = if holds then class else []

unfoldable pub look_classes : Look → List ℕ
look_classes look = class_if look.over (codes " over")
    ++ (class_if look.stuck (codes " stuck") ++ class_if look.fault (codes " fault"))

abbrev pub kind_of : Deed → List ℕ
kind_of d = kind_class (is_some (found_span d)) (is_some (written_span d))

unfoldable pub size_text : ℕ → ℕ → List ℕ
size_text h i = codes "\" " ++ (place_attributes (lane_left h) (row_top i)
    ++ codes " width=\"320\" height=\"24\" rx=\"4\"/>\n")

unfoldable pub frame_text : Deed → Look → ℕ → ℕ → List ℕ
frame_text d look h i = codes "<rect class=\"box" ++ (kind_of d ++ (look_classes look ++ size_text h i))

-- What the row shows, in its box, at whose edge a longer text ends: it stands in a picture of its own.
unfoldable pub what_text : Table → Deed → ℕ → ℕ → List ℕ
what_text names d h i =
    codes "<svg " ++ (place_attributes (lane_left h) (row_top i)
    ++ (codes " width=\"316\" height=\"24\"><text x=\"8\" y=\"16\">" ++ (deed_words names d
    ++ codes "</text></svg>\n")))

-- Beside the box stands what is said of the row, or else the word of its look.
abbrev pub look_word : Look → List ℕ
look_word look =
    if look.over then (if look.stuck then codes "overwritten, stuck" else codes "overwritten")
    else (if look.stuck then codes "stuck here" else [])

abbrev pub look_class : Look → List ℕ
look_class look = if look.stuck then codes "mark stuck-is" else codes "mark over-is"

abbrev pub note_class : Look → List ℕ
note_class look = if look.fault then codes "mark fault-is" else codes "mark"

unfoldable pub noted_text : Look → Option Note → Deed → ℕ → ℕ → List ℕ
noted_text look noted d h i =
    open_text (note_class look) (lane_right h + 14) (row_base i) ++ (note_words noted d ++ close_text)

unfoldable pub looks_text : Look → ℕ → ℕ → List ℕ
looks_text look h i = open_text (look_class look) (lane_right h + 14) (row_base i) ++ (look_word look ++ close_text)

abbrev pub mark_text : Look → Option Note → Deed → ℕ → ℕ → List ℕ
mark_text look noted d h i =
    if has_words noted d then noted_text look noted d h i
    else (if look.over || look.stuck then looks_text look h i else [])

-- The row at index i of a story.
unfoldable pub row_front : Plan → Look → ℕ → Row → List ℕ
row_front plan look i row = title_text plan.names plan.marks row
    ++ (count_text row.number i ++ frame_text row.deed look row.hart i)

unfoldable pub row_back : Plan → Look → Option Note → ℕ → Row → List ℕ
row_back plan look noted i row = what_text plan.names row.deed row.hart i
    ++ (mark_text look noted row.deed row.hart i ++ codes "</g>\n")

unfoldable pub row_text : Plan → Look → Option Note → ℕ → Row → List ℕ
row_text plan look noted i row = row_front plan look i row ++ row_back plan look noted i row

-- The last row of each hart that goes on is marked where the order ends in a stuck state.
abbrev pub is_marked : Plan → List Row → Row → Bool
is_marked plan later row = plan.is_stuck && is_stuck later row

abbrev pub look_of : Plan → List Row → ℕ → Row → Look
look_of plan rows i row = record {
  over = is_overwritten (drop (i + 1) rows) row;
  stuck = is_marked plan (drop (i + 1) rows) row;
  fault = is_last_fault rows i;
}

abbrev pub box_text : Plan → List Row → ℕ → Row → List ℕ
box_text plan rows i row = row_text plan (look_of plan rows i row) (note_at rows i row) i row

abbrev pub boxes_text : Plan → List Row → List ℕ
boxes_text plan rows = each_from (box_text plan rows) 0 rows
