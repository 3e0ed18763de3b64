use Rattle.text_fields.proofs.SignedLaws.{signed_field-signed_decimal, signed_field_only}
use Rattle.text_fields.proofs.laws.signed_decimal_law.Goals as goal

pub returns-clause-back : goal.returns-clause-back
returns-clause-back c = signed_field-signed_decimal

pub returns-clause-only : goal.returns-clause-only
returns-clause-only c = signed_field_only
