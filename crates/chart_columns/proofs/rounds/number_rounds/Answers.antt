use Rattle.std.proofs.Common.{◌≡◌, ◌∙◌, ◌≤◌, ◌<◌, ℕ, get_or, length, sym, ap, subst, arith, refl, List, []}
use Rattle.std.proofs.lemmas.List.{length-set}
use Rattle.events.specs.declared.event.Event.{Event}
use Rattle.events.specs.declared.event.Event.TheVariants.{Drop}
use Rattle.chart_rows.specs.declared.row.Row.{Row}
use Rattle.chart_columns.specs.declared.rounds.Round.{Round}
use Rattle.chart_columns.specs.Limits.{AreLimits}
use Rattle.chart_columns.proofs.Rounding.{done_more, left_alike, limit_at, round_at, round_is, column_stays, start_stays}
use Rattle.chart_columns.proofs.rounds.number_rounds.Goals as goal

any : Event
any = Drop 0 0

pub loop-place-init : goal.loop-place-init
loop-place-init c = record {
  count = c.requires.count;
  start = omega arith;
  column = omega arith;
  left = λ k d least below. refl;
  round = λ rows are. refl;
  done = λ rows are k d below. absurd (omega (arith, below));
}

pub loop-place-preserved : goal.loop-place-preserved
loop-place-preserved c =
    let events = c.args.events.now in
    let n = c.loop-place.place in
    let before = c.loop-place.invariant in
    let inside = c.loop-place-test.true in
    let within : n < length c.args.table.now = subst (λ m. n < m) (sym c.requires.count) inside in
    let next = λ (rows : List Row) (are : AreLimits rows c.args.table.now).
    round_is rows events n any _ c.loop-place.round c.with-round.result inside
    (limit_at rows c.args.table.now n _ _ within are (before.left n _ (omega arith) inside)) before.start
    (before.round rows are) (c.with-round.ensures any) in
    record {
      count = length-set c.loop-place.table n c.with-round.result.column ∙ before.count;
      start = start_stays n c.loop-place.round c.with-round.result _ before.start (c.with-round.ensures any);
      column = column_stays n c.loop-place.round c.with-round.result _ before.column (c.with-round.ensures any);
      left = left_alike [] events c.loop-place.table c.args.table.now n c.with-round.result.column before.count inside
          before.left;
      round = next;
      done = λ rows are. done_more rows events c.loop-place.table c.args.table.now n c.with-round.result.column
          before.count inside (before.done rows are) (ap (λ (r : Round). r.column) (next rows are));
    }

pub returns : goal.returns
returns c rows are =
    let end : length c.args.events.now ≤ c.loop-place.place = omega arith in
    record {
      count = c.loop-place.invariant.count;
      each = λ place d inside. c.loop-place.invariant.done rows are place d (omega (arith, end, inside));
    }
