use Rattle.text_fields.proofs.DecimalLaws.{decimal_field-decimal, decimal_field_only}
use Rattle.text_fields.proofs.laws.decimal_law.Goals as goal

pub returns-clause-back : goal.returns-clause-back
returns-clause-back c = decimal_field-decimal

pub returns-clause-only : goal.returns-clause-only
returns-clause-only c = decimal_field_only
