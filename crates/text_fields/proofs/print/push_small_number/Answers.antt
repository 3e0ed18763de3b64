use Rattle.std.proofs.Common.{arith}
use Rattle.std.proofs.lemmas.Fmt.{decimal_digit}
use Rattle.text_fields.proofs.print.push_small_number.Goals as goal

pub returns-then-value-lt10-clause-spelled : goal.returns-then-value-lt10-clause-spelled
returns-then-value-lt10-clause-spelled g c =
    rw (decimal_digit c.args.value (omega arith)) c.push_ascii.ensures.spelled
