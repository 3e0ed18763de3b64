use Rattle.std.proofs.Common.{arith}
use Rattle.std.proofs.lemmas.Bool.Decides.{nat_tests}
use Rattle.text_fields.proofs.FirstLemmas.{no_dash}
use Rattle.text_fields.proofs.first.first_dash.Goals as goal

pub returns-then-is_empty-clause-none : goal.returns-then-is_empty-clause-none
returns-then-is_empty-clause-none c =
    no_dash c.args.separator c.args.text.now (λ some is. grind (arith, nat_tests, some))

pub returns-then-text-ne45-clause-none : goal.returns-then-text-ne45-clause-none
returns-then-text-ne45-clause-none c =
    no_dash c.args.separator c.args.text.now (λ some. c.if-text-ne45.true)
