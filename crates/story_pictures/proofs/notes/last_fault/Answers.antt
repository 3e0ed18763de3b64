use Rattle.std.proofs.Common.{◌≡◌, get_or, sym, subst}
use Rattle.story_pictures.specs.Notes.{HasNoted}
use Rattle.story_pictures.proofs.Marking.{fault_more, past_more}
use Rattle.story_pictures.proofs.notes.last_fault.Goals as goal

pub loop-index-preserved : goal.loop-index-preserved
loop-index-preserved c =
    let rows = c.args.rows.now in
    let i = c.loop-index.index in
    let inside = c.loop-index-test.true in (
      subst (λ past. HasNoted past c.hear.new.self) (sym (past_more rows i _ inside))
          (c.hear.ensures _ c.loop-index.invariant.0),
      fault_more rows i _ _ _ _ inside c.loop-index.invariant.1 (c.note_of.ensures _ c.loop-index.invariant.0)
          c.later_fault-last.ensures,
    )
