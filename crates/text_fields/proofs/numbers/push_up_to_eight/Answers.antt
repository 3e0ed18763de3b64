use Rattle.text_fields.proofs.DecimalSteps.{three_appended, decimal_ten_thousands}
use Rattle.text_fields.proofs.numbers.push_up_to_eight.Goals as goal
use Rattle.std.proofs.Common.{arith}

pub returns-clause-spelled : goal.returns-clause-spelled
returns-clause-spelled g c =
    three_appended _ _ _ _ _ _ _ _ c.push_up_to_four.ensures.spelled c.push_two.ensures.spelled c.push_two-2.ensures.spelled
    (decimal_ten_thousands c.args.value c.requires.large (omega arith))
