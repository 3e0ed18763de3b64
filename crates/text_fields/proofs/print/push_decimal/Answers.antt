use Rattle.std.proofs.Common.{rules}
use Rattle.text_fields.proofs.print.push_decimal.Goals as goal

pub returns-clause-spelled : goal.returns-clause-spelled
returns-clause-spelled g c = search rules
