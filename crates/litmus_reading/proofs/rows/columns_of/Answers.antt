use Rattle.std.proofs.Common.{arith}
use Rattle.litmus_reading.proofs.Cells.{columns_more}
use Rattle.litmus_reading.proofs.rows.columns_of.Goals as goal

pub loop-word-preserved : goal.loop-word-preserved
loop-word-preserved c = record {
  few = omega (arith, c.loop-word.invariant.few, c.bars_in-columns.ensures.few);
  all = columns_more c.args.row.now c.loop-word.word-index _ _ _ _ c.loop-word-test.true c.bars_in-columns.ensures.parts
      c.loop-word.invariant.all;
}
