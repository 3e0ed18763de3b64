use Rattle.text_fields.proofs.OptionalLaws.{optional_hex-back, optional_hex-only}
use Rattle.text_fields.proofs.laws.optional_hex_law.Goals as goal

pub returns-clause-back : goal.returns-clause-back
returns-clause-back c = optional_hex-back

pub returns-clause-only : goal.returns-clause-only
returns-clause-only c = optional_hex-only
