use Rattle.litmus_reading.proofs.instruction.jump_and_link.Goals as goal

pub returns-in_err-link-clause-only : goal.returns-in_err-link-clause-only
returns-in_err-link-clause-only c = λ op' left right label is last.
    absurd (c.in_err-link.ensures.only 0 label is.3 last)
