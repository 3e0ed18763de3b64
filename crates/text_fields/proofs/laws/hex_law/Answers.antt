use Rattle.text_fields.proofs.HexLaws.{hex_field-hex, hex_field_only}
use Rattle.text_fields.proofs.laws.hex_law.Goals as goal

pub returns-clause-back : goal.returns-clause-back
returns-clause-back c = hex_field-hex

pub returns-clause-only : goal.returns-clause-only
returns-clause-only c = hex_field_only
