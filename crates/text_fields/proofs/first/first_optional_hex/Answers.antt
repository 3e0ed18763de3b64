use Rattle.std.proofs.Common.{refl}
use Rattle.text_fields.specs.Reading.{optional_field}
use Rattle.text_fields.proofs.first.first_optional_hex.Goals as goal

pub returns-in-Some-clause-read : goal.returns-in-Some-clause-read
unfolding optional_field
returns-in-Some-clause-read c = rw c.in-Some.ensures.dash refl

pub returns-in-Err-clause-refused : goal.returns-in-Err-clause-refused
unfolding optional_field
returns-in-Err-clause-refused c = rw (c.in_default.ensures.none, c.in-Err.ensures.refused) refl

pub returns-in-Ok-clause-read : goal.returns-in-Ok-clause-read
unfolding optional_field
returns-in-Ok-clause-read c = rw (c.in_default.ensures.none, c.in-Ok.ensures.read) refl
