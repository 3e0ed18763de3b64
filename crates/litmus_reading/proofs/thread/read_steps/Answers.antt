use Rattle.std.proofs.Common.{◌∙◌}
use Rattle.litmus_tests.specs.Limits.{most_steps}
use Rattle.litmus_reading.specs.Rows.{column_of}
use Rattle.litmus_reading.specs.Threads.{labels_from}
use Rattle.litmus_reading.proofs.Chains.{passed_on}
use Rattle.litmus_reading.proofs.Columns.{as_few_written, lent_steps, spelled_thread}
use Rattle.litmus_reading.proofs.thread.read_steps.Goals as goal

pub returns-clause-spelled : goal.returns-clause-spelled
returns-clause-spelled c =
    spelled_thread c.args.text.now c.args.rows.now c.args.hart _ _ _ _ _ c.in_ok-column.ensures.steps
    c.in_ok-column.ensures.labels c.in_ok-column.ensures.once c.as_slice.ensures.value c.as_slice-2.ensures.value
    c.in_ok-steps.ensures.are

pub returns-in_err-column-clause-only : goal.returns-in_err-column-clause-only
returns-in_err-column-clause-only c = λ steps it few.
    passed_on c.from_residual.result c.in_err-column.field-0.0 _ _ c.from_residual.ensures.1
    (c.in_err-column.ensures.only it.written it.spelled it.once (as_few_written c.args.text.now (labels_from 0 (column_of c.args.hart c.args.rows.now)) _ steps most_steps it.steps_are few))

pub returns-in_err-steps-clause-only : goal.returns-in_err-steps-clause-only
returns-in_err-steps-clause-only c = λ steps it few.
    passed_on c.from_residual-in_err-steps.result c.in_err-steps.field-0.0 _ _ c.from_residual-in_err-steps.ensures.1
    (c.in_err-steps.ensures.only steps (lent_steps c.args.text.now _ _ _ _ _ steps c.in_ok-column.ensures.labels
    c.as_slice.ensures.value
    (c.as_slice-2.ensures.value ∙ c.in_ok-column.ensures.only it.written it.spelled it.once
    (as_few_written c.args.text.now (labels_from 0 (column_of c.args.hart c.args.rows.now)) _ steps most_steps it.steps_are few)) it.steps_are))

pub returns-clause-only : goal.returns-clause-only
returns-clause-only c = λ steps it few.
    c.in_ok-steps.ensures.only steps (lent_steps c.args.text.now _ _ _ _ _ steps c.in_ok-column.ensures.labels
    c.as_slice.ensures.value
    (c.as_slice-2.ensures.value ∙ c.in_ok-column.ensures.only it.written it.spelled it.once
    (as_few_written c.args.text.now (labels_from 0 (column_of c.args.hart c.args.rows.now)) _ steps most_steps it.steps_are few)) it.steps_are)
