use Rattle.litmus_words.proofs.Digits.{one_digit_more, too_large}
use Rattle.litmus_words.proofs.numeral.number_after.Goals as goal

pub loop-digit-preserved : goal.loop-digit-preserved
loop-digit-preserved c =
    one_digit_more c.args.base _ _ c.args.digits.now _ _ c.loop-digit-test.true c.loop-digit.invariant
    c.in-Some.ensures.found

pub returns-in_default-clause-none : goal.returns-in_default-clause-none
returns-in_default-clause-none c =
    too_large c.args.base c.loop-digit.number c.args.digits.now c.loop-digit.digit-index 0 c.requires.0
    c.loop-digit-test.true c.loop-digit.invariant (rw c.in_default.is at c.with_digit.ensures.none)
