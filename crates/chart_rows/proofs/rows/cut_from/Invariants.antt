use Rattle.chart_rows.proofs.Cutting.{AreCutBelow}
use Rattle.chart_rows.proofs.rows.cut_from.Given as goal

abbrev pub invariant-loop-seq : goal.invariant-loop-seq
invariant-loop-seq l = AreCutBelow l.seq l.first l.hart l.by l.fn.rows l.rows
