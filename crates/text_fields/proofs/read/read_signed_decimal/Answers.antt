use Rattle.std.proofs.Common.{rules, arith}
use Rattle.std.proofs.lemmas.Grind.{common_steps}
use Rattle.text_fields.specs.Reading.{signed_field}
use Rattle.text_fields.proofs.read.read_signed_decimal.Goals as goal

pub returns-in_default : goal.returns-in_default
unfolding signed_field
returns-in_default c = first_of (search rules, grind (arith, common_steps))

pub returns-in_err-read_decimal : goal.returns-in_err-read_decimal
unfolding signed_field
returns-in_err-read_decimal c = search rules

pub returns-in_err-value : goal.returns-in_err-value
unfolding signed_field
returns-in_err-value c = first_of (search rules, grind (arith, common_steps))
