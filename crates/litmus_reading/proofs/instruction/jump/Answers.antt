use Rattle.litmus_reading.proofs.instruction.jump.Goals as goal

pub returns-in_err-label-clause-only : goal.returns-in_err-label-clause-only
returns-in_err-label-clause-only c = λ op' left right label is last.
    absurd (c.in_err-label.ensures.only label is.3 last)
