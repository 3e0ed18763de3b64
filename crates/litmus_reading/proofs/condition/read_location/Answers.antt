use Rattle.litmus_reading.proofs.condition.read_location.Goals as goal

pub returns-in_err-index-clause-only : goal.returns-in_err-index-clause-only
returns-in_err-index-clause-only c = λ index rest taken no_index.
    absurd (c.in_err-index.ensures.only index rest taken no_index)
