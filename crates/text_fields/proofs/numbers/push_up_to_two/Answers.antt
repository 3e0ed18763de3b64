use Rattle.std.proofs.Common.{arith}
use Rattle.std.proofs.lemmas.Fmt.{decimal_digit}
use Rattle.text_fields.proofs.DecimalSteps.{decimal_two}
use Rattle.text_fields.proofs.numbers.push_up_to_two.Goals as goal

pub returns-then-value-lt10-clause-spelled : goal.returns-then-value-lt10-clause-spelled
returns-then-value-lt10-clause-spelled g c =
    rw (decimal_digit c.args.value (omega arith)) c.push_ascii.ensures.spelled

pub returns-else-value-lt10-clause-spelled : goal.returns-else-value-lt10-clause-spelled
returns-else-value-lt10-clause-spelled g c =
    rw (decimal_two c.args.value (omega arith) c.requires.small) c.push_two.ensures.spelled
