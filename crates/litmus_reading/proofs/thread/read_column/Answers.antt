use Rattle.litmus_reading.specs.Rows.{column_of}
use Rattle.litmus_reading.proofs.Chains.{passed_on}
use Rattle.std.proofs.Common.{sym, subst}
use Rattle.litmus_tests.specs.Limits.{most_steps}
use Rattle.litmus_reading.specs.Threads.{if_some, AreSpelled}
use Rattle.std.proofs.Common.{refl, ◌∙◌, arith, tests}
use Rattle.litmus_reading.proofs.Cells.{next_row}
use Rattle.litmus_reading.proofs.Columns.{cut_cell, first_left, labels_end, labels_more, left_few, left_more, no_rows, none_left, once_at, once_end, once_left, once_more, steps_end, steps_more, turn}
use Rattle.litmus_reading.proofs.thread.read_column.Goals as goal

pub loop-rest-init : goal.loop-rest-init
loop-rest-init c =
    rw (c.new-steps.ensures.items, c.new-labels.ensures.items) (record {
      steps = λ more spelled. spelled;
      labels = refl;
      once = λ once. once;
      left = λ all spelled few. record { more = all; is = refl; spelled = spelled };
      once_left = λ once. once;
    })

pub loop-rest-preserved : goal.loop-rest-preserved
loop-rest-preserved c =
    let it = turn c.args.text.now c.args.hart c.loop-rest.rest.now c.cut.result.0.now c.cut.result.1.now
    c.cell_of-cell.result.now c.instruction_of-instruction.result.now c.loop-rest.steps.items
    c.add_step.new.steps.items c.loop-rest.labels.items c.add_label.new.labels.items c.len.result
    (next_row c.args.hart c.loop-rest.rest.now c.cut.result.0.now c.cut.result.1.now
    (grind (arith, tests, c.loop-rest-test.true, c.is_empty.ensures)) c.cut.ensures.cut
    c.cut.ensures.first) c.cell_of-cell.ensures c.instruction_of-instruction.ensures c.in_ok-add_step.ensures.added
    (c.len.ensures ∙ c.loop-rest.steps.ok.0) c.in_ok-add_label.ensures.added c.in_ok-add_label.ensures.once in
    record {
      steps = steps_more _ _ _ _ _ _ it.next c.loop-rest.invariant.steps it.added;
      labels = labels_more _ _ _ _ _ _ _ _ it.next c.loop-rest.invariant.labels it.added it.more;
      once = once_more _ _ _ _ _ _ _ _ _ it.next c.loop-rest.invariant.once it.added it.more it.once;
      left = λ all spelled few.
          let rest = c.loop-rest.invariant.left all spelled few in
          let parts = first_left c.args.text.now _ (column_of c.args.hart c.cut.result.1.now) c.cell_of-cell.result.now _ all it.next rest in
          left_more c.args.text.now _ (column_of c.args.hart c.cut.result.1.now) c.cell_of-cell.result.now _ _ all rest parts
          (c.in_ok-add_step.ensures.only parts.front
          (subst (λ t. AreSpelled c.args.text.now (if_some t) parts.front)
          (sym c.instruction_of-instruction.ensures) parts.before)
          (left_few c.args.text.now _ (column_of c.args.hart c.cut.result.1.now) c.cell_of-cell.result.now _ all most_steps rest parts few));
      once_left = λ once.
          once_left _ _ _ _ _ _ _ _ it.next (c.loop-rest.invariant.once_left once) it.added it.more;
    }

pub returns-clause-steps : goal.returns-clause-steps
returns-clause-steps c =
    steps_end c.args.text.now _ _ _ (no_rows c.args.hart c.loop-rest.rest.now
    (grind (arith, tests, c.loop-rest-test.false, c.is_empty.ensures))) c.loop-rest.invariant.steps

pub returns-clause-labels : goal.returns-clause-labels
returns-clause-labels c =
    labels_end _ _ _ _ (no_rows c.args.hart c.loop-rest.rest.now
    (grind (arith, tests, c.loop-rest-test.false, c.is_empty.ensures))) c.loop-rest.invariant.labels

pub returns-clause-once : goal.returns-clause-once
returns-clause-once c =
    once_end _ _ _ _ _ (no_rows c.args.hart c.loop-rest.rest.now
    (grind (arith, tests, c.loop-rest-test.false, c.is_empty.ensures))) c.loop-rest.invariant.once

pub returns-clause-only : goal.returns-clause-only
returns-clause-only c = λ written spelled once few.
    none_left c.args.text.now _ _ written (no_rows c.args.hart c.loop-rest.rest.now
    (grind (arith, tests, c.loop-rest-test.false, c.is_empty.ensures)))
    (c.loop-rest.invariant.left written spelled few)

pub returns-in_err-add_label-clause-only : goal.returns-in_err-add_label-clause-only
returns-in_err-add_label-clause-only c = λ written spelled once few.
    let next = cut_cell c.args.hart c.loop-rest.rest.now c.cut.result.0.now c.cut.result.1.now c.cell_of-cell.result.now
    (next_row c.args.hart c.loop-rest.rest.now c.cut.result.0.now c.cut.result.1.now
    (grind (arith, tests, c.loop-rest-test.true, c.is_empty.ensures)) c.cut.ensures.cut c.cut.ensures.first)
    c.cell_of-cell.ensures in
    passed_on c.from_residual.result c.in_err-add_label.field-0.0 _ _ c.from_residual.ensures.1
    (c.in_err-add_label.ensures.only (once_at c.args.text.now _ (column_of c.args.hart c.cut.result.1.now)
    c.cell_of-cell.result.now _ c.len.result c.loop-rest.labels.items next (c.len.ensures ∙ c.loop-rest.steps.ok.0)
    (c.loop-rest.invariant.once_left once)))

pub returns-in_err-add_step-clause-only : goal.returns-in_err-add_step-clause-only
returns-in_err-add_step-clause-only c = λ written spelled once few.
    let next = cut_cell c.args.hart c.loop-rest.rest.now c.cut.result.0.now c.cut.result.1.now c.cell_of-cell.result.now
    (next_row c.args.hart c.loop-rest.rest.now c.cut.result.0.now c.cut.result.1.now
    (grind (arith, tests, c.loop-rest-test.true, c.is_empty.ensures)) c.cut.ensures.cut c.cut.ensures.first)
    c.cell_of-cell.ensures in
    let rest = c.loop-rest.invariant.left written spelled few in
    let parts = first_left c.args.text.now _ (column_of c.args.hart c.cut.result.1.now) c.cell_of-cell.result.now
    c.loop-rest.steps.items written next rest in
    passed_on c.from_residual-in_err-add_step.result c.in_err-add_step.field-0.0 _ _
    c.from_residual-in_err-add_step.ensures.1
    (c.in_err-add_step.ensures.only parts.front
    (subst (λ t. AreSpelled c.args.text.now (if_some t) parts.front)
    (sym c.instruction_of-instruction.ensures) parts.before)
    (left_few c.args.text.now _ (column_of c.args.hart c.cut.result.1.now) c.cell_of-cell.result.now _ written most_steps rest
    parts few))
