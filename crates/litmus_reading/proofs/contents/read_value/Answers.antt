use Rattle.litmus_reading.proofs.contents.read_value.Goals as goal

pub returns-in_err-check_given-clause-only : goal.returns-in_err-check_given-clause-only
returns-in_err-check_given-clause-only c = λ value rest taken no_index no_offset.
    absurd (c.in_err-check_given.ensures.only value rest taken)
