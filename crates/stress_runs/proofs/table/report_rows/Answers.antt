use Rattle.stress_runs.proofs.Rows.{rows_step}
use Rattle.stress_runs.proofs.table.report_rows.Goals as goal

pub loop-index-preserved : goal.loop-index-preserved
loop-index-preserved g c =
    rows_step c.args.columns.now.registers.items c.args.columns.now.words.items _ _ _ c.args.rows.now
    c.loop-index.index c.index-rows-index.result c.loop-index-test.true
    c.index-rows-index.is c.loop-index.invariant c.in_ok-report_row.ensures
