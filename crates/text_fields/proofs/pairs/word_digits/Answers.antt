use Rattle.std.proofs.Common.{arith}
use Rattle.text_fields.proofs.PairLemmas.{word_is}
use Rattle.text_fields.proofs.pairs.word_digits.Goals as goal

pub returns-clause-spelled : goal.returns-clause-spelled
returns-clause-spelled c =
    word_is c.args.value _ _ _ _ _ _ _ _ (omega arith) c.high_digit.ensures.spelled
    c.low_digit.ensures.spelled c.high_digit-2.ensures.spelled c.low_digit-2.ensures.spelled
    c.high_digit-3.ensures.spelled c.low_digit-3.ensures.spelled c.high_digit-4.ensures.spelled
    c.low_digit-4.ensures.spelled
