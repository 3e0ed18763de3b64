use Rattle.litmus_reading.proofs.Chains.{behind_one, last_of_less, last_of_more, ok_so}
use Rattle.litmus_reading.proofs.operands.comma_label.Goals as goal

pub returns-clause-label : goal.returns-clause-label
returns-clause-label c =
    ok_so c.last_label.result _ _ (λ label it. last_of_more _ _ _ label c.in_ok-rest.ensures.spelled it)
    c.last_label.ensures.label

pub returns-clause-only : goal.returns-clause-only
returns-clause-only c = λ label is last.
    c.last_label.ensures.only label (behind_one _ _ _ _ _ c.in_ok-rest.ensures.spelled is)
    (last_of_less _ _ _ label _ _ c.in_ok-rest.ensures.spelled (behind_one _ _ _ _ _ c.in_ok-rest.ensures.spelled is) last)
