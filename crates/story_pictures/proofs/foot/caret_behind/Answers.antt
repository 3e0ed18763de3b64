use Rattle.std.proofs.Common.{arith}
use Rattle.story_pictures.proofs.Lines.{caret_more}
use Rattle.story_pictures.proofs.foot.caret_behind.Goals as goal

pub loop-byte-preserved : goal.loop-byte-preserved
loop-byte-preserved c = (
  caret_more c.args.text.now c.loop-byte.byte-index _ _ _ c.loop-byte-test.true c.loop-byte.invariant.0
      c.next_caret-caret.ensures.value,
  omega (arith, c.next_caret-caret.ensures.column, c.loop-byte.invariant.1),
  omega (arith, c.next_caret-caret.ensures.lines, c.loop-byte.invariant.2),
)
