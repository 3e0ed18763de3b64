use Rattle.litmus_reading.proofs.fitting.check_number.Goals as goal

pub returns-in_err-number-clause-only : goal.returns-in_err-number-clause-only
returns-in_err-number-clause-only c = λ number rest taken within.
    absurd (c.in_err-number.ensures.only number rest taken)
