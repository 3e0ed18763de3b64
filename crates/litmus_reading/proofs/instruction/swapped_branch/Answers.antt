use Rattle.litmus_reading.proofs.instruction.swapped_branch.Goals as goal

pub returns-in_err-right-clause-only : goal.returns-in_err-right-clause-only
returns-in_err-right-clause-only c = λ op' left right label is last.
    absurd (c.in_err-right.ensures.only right left label is.1 last)
