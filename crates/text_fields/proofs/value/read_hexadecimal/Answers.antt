use Rattle.std.proofs.Common.{sym, ◌∙◌}
use Rattle.text_fields.proofs.ValueLaws.{hexadecimal_found, hexadecimal_lead, hexadecimal_length}
use Rattle.text_fields.proofs.ValueLaws.{hexadecimal_none}
use Rattle.text_fields.proofs.value.read_hexadecimal.Goals as goal

pub returns-then-not-is_zero-clause-none : goal.returns-then-not-is_zero-clause-none
returns-then-not-is_zero-clause-none c =
    hexadecimal_lead c.args.text.now _ c.split_field.ensures.first (c.is_zero.ensures.other c.if-not-is_zero.true)

pub returns-then-not-can_be_digits-clause-none : goal.returns-then-not-can_be_digits-clause-none
returns-then-not-can_be_digits-clause-none c =
    hexadecimal_length c.args.text.now _ c.split_field.ensures.others
    (sym c.can_be_digits.ensures ∙ c.if-not-can_be_digits.true)

pub returns-in-Ok-clause-found : goal.returns-in-Ok-clause-found
returns-in-Ok-clause-found c =
    hexadecimal_found c.args.text.now _ _ c.in-Ok.value c.split_field.ensures.first c.split_field.ensures.others
    (c.is_zero.ensures.is c.if-not-is_zero.false) (sym c.can_be_digits.ensures ∙ c.if-not-can_be_digits.false)
    c.in-Ok.ensures.field

pub returns-in-Err-clause-none : goal.returns-in-Err-clause-none
returns-in-Err-clause-none c =
    hexadecimal_none c.args.text.now _ c.in-Err.field-0 c.split_field.ensures.others c.in-Err.ensures.field
