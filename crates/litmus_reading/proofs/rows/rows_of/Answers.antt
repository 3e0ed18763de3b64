use Rattle.std.proofs.Common.{refl, sym, ap, ◌∙◌, ◌++◌, length}
use Rattle.litmus_reading.specs.Rows.{is_bar, parted_by}
use Rattle.litmus_reading.proofs.Tables.{all_left, cells_of_first, less_left, next_cut, none_left, not_whole, rows_same, some_left}
use Rattle.litmus_reading.proofs.Wholes.{no_row, rows_more, table}
use Rattle.litmus_reading.proofs.rows.rows_of.Goals as goal

pub loop-row-init : goal.loop-row-init
loop-row-init c = record {
  before = no_row c.args.harts c.args.words.now;
  left = λ rows asked it asks. all_left c.args.harts c.args.words.now rows asked it;
}

pub loop-row-preserved : goal.loop-row-preserved
loop-row-preserved c = record {
  before = rows_more c.args.harts c.args.words.now c.loop-row.rest.now _ _ c.loop-row.invariant.before c.cut.ensures.cut
      c.cut.ensures.first c.if-row-rest.false (sym c.columns_of-columns.ensures ∙ c.if-columns-harts.false)
      (sym c.asks.ensures ∙ c.loop-row-test.true);
  left = λ rows asked it asks.
      let rest = c.loop-row.invariant.left rows asked it asks in
      let first = some_left c.args.harts rows c.loop-row.rest.now asked rest (sym c.asks.ensures ∙ c.loop-row-test.true)
      asks rest.closed in
      less_left c.args.harts rows c.loop-row.rest.now asked c.cut.result.1.now rest first
      (next_cut c.args.harts rows c.loop-row.rest.now asked _ _ rest first c.cut.ensures.cut c.cut.ensures.first).1;
}

pub returns-clause-table : goal.returns-clause-table
returns-clause-table c = table c.args.harts c.args.words.now c.loop-row.rest.now _ c.loop-row.invariant.before refl

pub returns-clause-only : goal.returns-clause-only
returns-clause-only c = λ rows asked it asks.
    let rest = c.loop-row.invariant.left rows asked it asks in
    let same = rest.is ∙ ap (λ t. t ++ asked) (none_left c.args.harts rows c.loop-row.rest.now asked rest
    (sym c.asks.ensures ∙ c.loop-row-test.false) rest.closed) in
    (rows_same c.args.harts c.args.words.now rows c.loop-row.rest.now asked it.spelled same, same)

pub returns-then-row-rest-clause-only : goal.returns-then-row-rest-clause-only
returns-then-row-rest-clause-only c = λ rows asked it asks.
    let rest = c.loop-row.invariant.left rows asked it asks in
    let first = some_left c.args.harts rows c.loop-row.rest.now asked rest (sym c.asks.ensures ∙ c.loop-row-test.true)
    asks rest.closed in
    not_whole c.args.harts rows c.loop-row.rest.now asked c.cut.result.0.now rest first
    (next_cut c.args.harts rows c.loop-row.rest.now asked _ _ rest first c.cut.ensures.cut c.cut.ensures.first).0
    c.if-row-rest.true

pub returns-then-columns-harts-clause-only : goal.returns-then-columns-harts-clause-only
returns-then-columns-harts-clause-only c = λ rows asked it asks.
    let rest = c.loop-row.invariant.left rows asked it asks in
    let first = some_left c.args.harts rows c.loop-row.rest.now asked rest (sym c.asks.ensures ∙ c.loop-row-test.true)
    asks rest.closed in
    c.if-columns-harts.true (c.columns_of-columns.ensures ∙ ap (λ t. length (parted_by is_bar t))
    (next_cut c.args.harts rows c.loop-row.rest.now asked _ _ rest first c.cut.ensures.cut c.cut.ensures.first).0
    ∙ cells_of_first c.args.harts rows c.loop-row.rest.now asked rest first)
