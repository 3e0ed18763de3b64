use Rattle.text_fields.proofs.ValueLaws.{value_found_of, value_is, value_none_of}
use Rattle.text_fields.proofs.value.read_value.Goals as goal

pub returns-in-Ok-clause-found : goal.returns-in-Ok-clause-found
returns-in-Ok-clause-found c = value_is c.args.text.now c.in-Ok.value c.in-Ok.ensures.field

pub returns-in-Err-clause-found : goal.returns-in-Err-clause-found
returns-in-Err-clause-found c = value_found_of c.args.text.now c.read_hexadecimal.result c.read_hexadecimal.ensures.found

pub returns-in-Err-clause-none : goal.returns-in-Err-clause-none
returns-in-Err-clause-none c =
    value_none_of c.args.text.now c.in-Err.field-0 c.read_hexadecimal.result c.in-Err.ensures.field
    c.read_hexadecimal.ensures.none
