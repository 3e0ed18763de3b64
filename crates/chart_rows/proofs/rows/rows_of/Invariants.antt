use Rattle.std.proofs.Common.{reverse, take}
use Rattle.chart_rows.specs.Rows.{AreRows}
use Rattle.chart_rows.proofs.ByFetch.{AreFetchedBefore}
use Rattle.chart_rows.proofs.rows.rows_of.Given as goal

-- the rows of the events so far
abbrev pub invariant-loop-index : goal.invariant-loop-index
invariant-loop-index l = record {
  rows : AreRows (reverse (take l.index l.events)) l.rows.items;
  by_fetch : AreFetchedBefore l.rows.items l.index;
}
