use Rattle.text_fields.proofs.OptionalLaws.{optional_decimal-back, optional_decimal-only}
use Rattle.text_fields.proofs.laws.optional_decimal_law.Goals as goal

pub returns-clause-back : goal.returns-clause-back
returns-clause-back c = optional_decimal-back

pub returns-clause-only : goal.returns-clause-only
returns-clause-only c = optional_decimal-only
