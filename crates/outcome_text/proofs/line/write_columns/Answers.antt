use Rattle.outcome_text.proofs.Appending.{columns_step}
use Rattle.outcome_text.proofs.line.write_columns.Goals as goal

pub loop-index-preserved : goal.loop-index-preserved
loop-index-preserved g c =
    columns_step c.args.before c.args.numbers.now _ _ _ c.args.columns.now c.loop-index.index c.number_at.result _
    c.loop-index-test.true c.number_at.ensures c.loop-index.invariant c.in_ok-write_column.ensures
