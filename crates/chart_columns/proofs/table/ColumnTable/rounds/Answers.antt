use Rattle.events.specs.declared.event.Event.{Event}
use Rattle.events.specs.declared.event.Event.TheVariants.{Drop}
use Rattle.chart_columns.proofs.Rounding.{row_apart, table_is}
use Rattle.chart_columns.proofs.table.ColumnTable.rounds.Goals as goal

any : Event
any = Drop 0 0

pub returns : goal.returns
returns c = record {
  columns = c.in_ok-columns.ensures;
  apart = λ k d inside. row_apart c.args.rows.now c.args.events.now c.in_ok-columns.columns.items
      c.in_ok-columns.ensures any k d inside;
}

pub invariant_of-result : goal.invariant_of-result
invariant_of-result c =
    table_is c.args.rows.now c.args.events.now c.in_ok-columns.columns.items c.in_ok-columns.ensures any c.requires.few
