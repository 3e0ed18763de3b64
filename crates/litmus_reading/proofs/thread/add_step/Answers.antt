use Rattle.std.proofs.Common.{◌∷◌, [], ◌++◌, sym, ap, ◌∙◌}
use Rattle.litmus_reading.proofs.Columns.{one_spelled, some_of}
use Rattle.litmus_reading.proofs.thread.add_step.Goals as goal

pub returns-in_err-written-clause-only : goal.returns-in_err-written-clause-only
returns-in_err-written-clause-only c = λ written are few.
    let it = one_spelled c.args.text.now c.args.instruction.now written (some_of _ _ _ (sym c.in-Some.ensures.value)) are in
    absurd (c.in_err-written.ensures.only it.0 it.2)

pub returns-clause-only : goal.returns-clause-only
returns-clause-only c = λ written are few.
    let it = one_spelled c.args.text.now c.args.instruction.now written (some_of _ _ _ (sym c.in-Some.ensures.value)) are in
    c.in_ok-push.ensures.items
    ∙ ap (λ t. c.args.steps.now.items ++ t) (ap (λ w. w ∷ []) (c.in_ok-written.ensures.only it.0 it.2) ∙ sym it.1)
