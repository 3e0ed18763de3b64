use Rattle.std.proofs.Common.{take, reverse}
use Rattle.std.specs.Io.KnownBytes.{Appends}
use Rattle.text_fields.specs.Each.{each_from}
use Rattle.story_pictures.specs.{Boxes.box_text, Form.plan_of, Notes.HasNoted}
use Rattle.story_pictures.proofs.boxes.write_boxes.Given as goal

-- the boxes of the rows so far are written, and these rows are heard
abbrev pub invariant-loop-index : goal.invariant-loop-index
invariant-loop-index g l =
    Appends (g.W.Write.contents l.fn.out) (g.W.Write.contents l.out)
    (each_from (box_text (plan_of l.form) l.rows) 0 (take l.index l.rows))
    × HasNoted (reverse (take l.index l.rows)) l.noting
