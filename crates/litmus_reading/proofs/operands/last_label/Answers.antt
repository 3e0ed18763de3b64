use Rattle.litmus_reading.proofs.Chains.{none_behind}
use Rattle.litmus_reading.proofs.operands.last_label.Goals as goal

pub returns-in_err-nothing-clause-only : goal.returns-in_err-nothing-clause-only
returns-in_err-nothing-clause-only c = λ label is last.
    absurd (c.in_err-nothing.ensures.refused (none_behind c.args.words.now c.in_ok-label.rest.now c.in_ok-label.label label
    c.in_ok-label.ensures.first is))
