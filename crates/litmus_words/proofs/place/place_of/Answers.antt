use Rattle.std.proofs.Common.{arith}
use Rattle.litmus_words.proofs.Placing.{column_at_line_end, column_at_other, line_at_line_end, line_at_other}
use Rattle.litmus_words.proofs.place.place_of.Goals as goal
use Rattle.litmus_words.proofs.place.place_of.Goals.{then-byte-eq10, else-byte-eq10}

pub loop-byte-preserved : goal.loop-byte-preserved
loop-byte-preserved c = elim c.if-byte-eq10.branch [
  | then-byte-eq10 w ↦ rw (w.line-is, w.column-is) record {
    line = line_at_line_end _ _ _ _ c.loop-byte-test.true w.if-byte-eq10.true c.loop-byte.invariant.line;
    column = column_at_line_end _ _ _ c.loop-byte-test.true w.if-byte-eq10.true;
    few = omega arith;
    short = omega arith;
  }
  | else-byte-eq10 w ↦ rw (w.line-is, w.column-is) record {
    line = line_at_other _ _ _ _ c.loop-byte-test.true w.if-byte-eq10.false c.loop-byte.invariant.line;
    column = column_at_other _ _ _ _ c.loop-byte-test.true w.if-byte-eq10.false c.loop-byte.invariant.column;
    few = omega arith;
    short = omega arith;
  }
]
