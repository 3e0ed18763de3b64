use Rattle.outcome_queries.proofs.TermReading.{hart_before, hart_found, hart_none, no_harts}
use Rattle.outcome_queries.proofs.term.read_harts.Goals as goal

pub returns-then-not-is_nothing-clause-none : goal.returns-then-not-is_nothing-clause-none
returns-then-not-is_nothing-clause-none c =
    no_harts c.args.text.now (c.is_each.ensures.other c.if-is_each.false)
    (hart_before c.args.text.now _ c.split_field.ensures.first (c.is_nothing.ensures.other c.if-not-is_nothing.true))

pub returns-in-Ok-clause-found : goal.returns-in-Ok-clause-found
returns-in-Ok-clause-found c =
    hart_found c.args.text.now _ _ c.in-Ok.hart c.split_field.ensures.first c.split_field.ensures.others
    (c.is_nothing.ensures.is c.if-not-is_nothing.false) c.in-Ok.ensures.field

pub returns-in-Err-clause-none : goal.returns-in-Err-clause-none
returns-in-Err-clause-none c =
    no_harts c.args.text.now (c.is_each.ensures.other c.if-is_each.false)
    (hart_none c.args.text.now _ c.in-Err.field-0 c.split_field.ensures.others c.in-Err.ensures.field)
