use Rattle.std.proofs.Common.{sym, subst}
use Rattle.text_fields.proofs.Appending.{each_step}
use Rattle.story_pictures.specs.{Boxes.box_text, Form.plan_of, Notes.HasNoted}
use Rattle.story_pictures.proofs.Marking.{past_more}
use Rattle.story_pictures.proofs.boxes.write_boxes.Goals as goal

pub loop-index-preserved : goal.loop-index-preserved
loop-index-preserved g c =
    let rows = c.args.rows.now in
    let i = c.loop-index.index in
    let inside = c.loop-index-test.true in
    let noted = c.note_of.ensures _ c.loop-index.invariant.1 in
    let text = rw noted at (rw c.look_of-look.ensures at c.in_ok-write_row.ensures) in (
      each_step (box_text (plan_of c.args.form.now) rows) _ _ _ _ _ _ inside c.loop-index.invariant.0 text,
      subst (λ past. HasNoted past c.hear.new.self) (sym (past_more rows i _ inside))
          (c.hear.ensures _ c.loop-index.invariant.1),
    )
