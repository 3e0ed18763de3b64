use Rattle.std.proofs.Common.{arith}
use Rattle.text_fields.proofs.Appending.{each_step}
use Rattle.story_pictures.specs.Foot.{piece_at}
use Rattle.story_pictures.proofs.Lines.{caret_more}
use Rattle.story_pictures.proofs.foot.write_pieces.Goals as goal

pub loop-index-preserved : goal.loop-index-preserved
loop-index-preserved g c =
    let text = c.args.text.now in
    let i = c.loop-index.index in
    let inside = c.loop-index-test.true in
    let so_far = c.loop-index.invariant.1 in
    let piece = rw so_far at c.in_ok-write_piece.ensures in (
      each_step (piece_at text) _ _ _ _ _ _ inside c.loop-index.invariant.0 piece,
      caret_more text i _ _ _ inside so_far c.next_caret-caret.ensures.value,
      omega (arith, c.next_caret-caret.ensures.column, c.loop-index.invariant.2),
      omega (arith, c.next_caret-caret.ensures.lines, c.loop-index.invariant.3),
    )
