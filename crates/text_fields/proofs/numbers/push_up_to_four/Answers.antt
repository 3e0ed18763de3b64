use Rattle.text_fields.proofs.DecimalSteps.{two_appended, decimal_hundreds}
use Rattle.text_fields.proofs.numbers.push_up_to_four.Goals as goal
use Rattle.std.proofs.Common.{arith}

pub returns-else-value-lt100-clause-spelled : goal.returns-else-value-lt100-clause-spelled
returns-else-value-lt100-clause-spelled g c =
    two_appended _ _ _ _ _ _ c.push_up_to_two-else-value-lt100.ensures.spelled c.push_two.ensures.spelled
    (decimal_hundreds c.args.value c.if-value-lt100.false (omega arith))
