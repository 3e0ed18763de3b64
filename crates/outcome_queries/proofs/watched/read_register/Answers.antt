use Rattle.outcome_queries.proofs.Reading.{no_register_named, no_hart, register_found}
use Rattle.outcome_queries.proofs.watched.read_register.Goals as goal

pub returns-in_default-clause-none : goal.returns-in_default-clause-none
returns-in_default-clause-none c =
    no_register_named c.args.text.now _ c.split_field.ensures.first c.in_default.ensures.none

pub returns-in_default-read_decimal-clause-none : goal.returns-in_default-read_decimal-clause-none
returns-in_default-read_decimal-clause-none c =
    no_hart c.args.text.now _ c.in_default-read_decimal.field-0 c.split_field.ensures.others
    c.in_default-read_decimal.ensures.field

pub returns-clause-found : goal.returns-clause-found
returns-clause-found c =
    register_found c.args.text.now _ _ c.in-Ok.hart c.in-Some.register c.split_field.ensures.first
    c.split_field.ensures.others c.in-Some.ensures.found c.in-Ok.ensures.field
