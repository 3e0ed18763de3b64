use Rattle.std.proofs.Common.{◌∙◌, ap, subst, length, ◌≤◌, reverse, arith}
use Rattle.std.proofs.lemmas.List.{take_all}
use Rattle.chart_rows.specs.Rows.{AreRows}
use Rattle.chart_rows.proofs.Squashed.{tell_squashes}
use Rattle.std.proofs.lemmas.List.{with_items_is}
use Rattle.chart_rows.proofs.Growing.{fetches_none, known_at, moved_at, fetched_at}
use Rattle.chart_rows.specs.declared.row.Row.{Row}
use Rattle.chart_rows.proofs.ByFetch.{fetched_by, moved_by, none_before}
use Rattle.chart_rows.proofs.rows.rows_of.Goals as goal
use Rattle.chart_rows.proofs.rows.rows_of.Goals.{in-Fetch+in_ok-push-in-Fetch, in_default}

pub move_on-requires : goal.move_on-requires
move_on-requires c =
    let events = c.args.events.now in
    rw c.as_mut_slice.ensures.value
    (known_at events c.loop-index.index _ c.loop-index.rows.items c.requires.history c.loop-index-test.true
    (fetches_none _ c.in_default.not-Fetch) c.loop-index.invariant.rows)

pub loop-index-preserved : goal.loop-index-preserved
loop-index-preserved c =
    let events = c.args.events.now in
    elim c.match-event.branch [
      | in-Fetch+in_ok-push-in-Fetch w ↦
          rw w.rows-is (record {
            rows = fetched_at events c.loop-index.index _ c.loop-index.rows.items _ _ w.in-Fetch.actor
                w.in-Fetch.hart w.in-Fetch.seq w.in-Fetch.pc w.in-Fetch.word w.in-Fetch.predicted c.requires.history
                c.loop-index-test.true w.in-Fetch.is c.loop-index.invariant.rows w.fetched.ensures
                w.in_ok-push-in-Fetch.ensures.items;
            by_fetch = fetched_by c.loop-index.index c.loop-index.rows.items _ w.fetched.result
                w.in_ok-push-in-Fetch.ensures.items (ap (λ (row : Row). row.fetched) w.fetched.ensures)
                c.loop-index.invariant.by_fetch;
          })
      | in_default w ↦
          let moved = rw w.as_mut_slice.ensures.value at w.move_on.ensures in
          let back = with_items_is c.loop-index.rows w.move_on.new.rows
          (w.move_on.ensures.count ∙ w.as_mut_slice.ensures.len) in
          rw (w.rows-is, back) (record {
            rows = moved_at events c.loop-index.index _ c.loop-index.rows.items w.move_on.new.rows
                c.requires.history c.loop-index-test.true (fetches_none _ w.in_default.not-Fetch)
                c.loop-index.invariant.rows moved;
            by_fetch = moved_by _ c.loop-index.index c.loop-index.rows.items w.move_on.new.rows moved
                c.loop-index.invariant.by_fetch;
          })
    ]

pub returns-clause-squashed : goal.returns-clause-squashed
returns-clause-squashed c =
    let events = c.args.events.now in
    let end : length events ≤ c.loop-index.index = omega arith in
    tell_squashes c.requires.history.0 (reverse events) c.loop-index.rows.items c.requires.history.1
    (subst (λ xs. AreRows (reverse xs) c.loop-index.rows.items) (take_all c.loop-index.index events end)
    c.loop-index.invariant.rows)
