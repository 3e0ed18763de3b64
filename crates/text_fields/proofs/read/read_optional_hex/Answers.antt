use Rattle.std.proofs.Common.{rules}
use Rattle.text_fields.specs.{Reading.optional_field}
use Rattle.text_fields.proofs.read.read_optional_hex.Goals as goal

pub returns-clause-field : goal.returns-clause-field
unfolding optional_field
returns-clause-field c = search rules
