use Rattle.std.proofs.Common.{rules}
use Rattle.text_fields.specs.{Reading.hex_field}
use Rattle.text_fields.proofs.read.read_hex.Goals as goal

pub returns-clause-field : goal.returns-clause-field
unfolding hex_field
returns-clause-field c = search rules

pub returns-clause-small : goal.returns-clause-small
unfolding hex_field
returns-clause-small c = search rules
