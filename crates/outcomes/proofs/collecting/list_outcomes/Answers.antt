use Rattle.std.proofs.Common.{◌∙◌, sym, ap, length, slice_index_or, refl, arith}
use Rattle.searches.proofs.Places.{contains_at}
use Rattle.outcomes.proofs.Collected.{one_more, no_more, all_listed, end_at}
use Rattle.outcomes.proofs.collecting.list_outcomes.Goals as goal
use Rattle.outcomes.proofs.collecting.list_outcomes.Goals.{in-Some+in_ok-outcome+in_ok-put, in_default}

pub loop-index-preserved : goal.loop-index-preserved
loop-index-preserved c =
    let ends = c.args.search.now.ends in
    let k = c.loop-index.index in
    let p = slice_index_or c.ends.result.now k 0 in
    let at_end = end_at ends c.ends-index-end.result.now c.ends.result.now k c.ends-index-end.ensures c.ends.ensures
    c.loop-index-test.true in
    elim c.match-state.branch [
      | in-Some+in_ok-outcome+in_ok-put w ↦
          rw w.listed-is (
            one_more c.args.machine.now c.args.watch.now c.args.search.now.states ends k p w.in-Some.state _ _ _ at_end
                (sym c.state.ensures ∙ w.in-Some.is) refl w.in_ok-outcome.ensures w.in_ok-put.ensures.put c.loop-index.invariant.0,
            w.in_ok-put.ensures.once c.loop-index.invariant.1,
          )
      | in_default w ↦
          rw w.listed-is (
            no_more c.args.machine.now c.args.watch.now c.args.search.now.states ends k p _ at_end
                (sym c.state.ensures ∙ w.in_default.is) c.loop-index.invariant.0,
            c.loop-index.invariant.1,
          )
    ]

pub returns-clause-once : goal.returns-clause-once
returns-clause-once c = c.loop-index.invariant.1

pub returns-clause-outcomes : goal.returns-clause-outcomes
returns-clause-outcomes c =
    all_listed c.args.machine.now c.args.watch.now c.args.search.now.states c.args.search.now.ends c.loop-index.index
    c.loop-index.listed.items
    (omega (arith, ap length c.ends-index-end.ensures, c.loop-index-test.false)) c.loop-index.invariant.0

pub outcome_of-requires-clause-known : goal.outcome_of-requires-clause-known
outcome_of-requires-clause-known c =
    let state = c.in-Some.state in
    let place = slice_index_or c.ends.result.now c.loop-index.index 0 in
    c.requires.known state (contains_at c.args.search.now.states place state (sym c.state.ensures ∙ c.in-Some.is))
