use Rattle.litmus_reading.proofs.Chains.{integer_of_short}
use Rattle.litmus_reading.proofs.operands.short.Goals as goal

pub returns-in_err-number-clause-only : goal.returns-in_err-number-clause-only
returns-in_err-number-clause-only c = λ number rest it.
    absurd (c.in_err-number.ensures.only number rest (integer_of_short c.args.words.now rest number it))
