use Rattle.outcome_queries.proofs.TermReading.{cause_found, cause_none, cause_word, no_causes}
use Rattle.outcome_queries.proofs.term.read_cause.Goals as goal

pub returns-then-not-is_stopped-clause-none : goal.returns-then-not-is_stopped-clause-none
returns-then-not-is_stopped-clause-none c =
    no_causes c.args.text.now (c.is_stopped.ensures.other c.if-is_stopped.false)
    (cause_word c.args.text.now _ c.split_field.ensures.first (c.is_stopped-2.ensures.other c.if-not-is_stopped.true))

pub returns-in-Ok-clause-found : goal.returns-in-Ok-clause-found
returns-in-Ok-clause-found c =
    cause_found c.args.text.now _ _ c.in-Ok.cause c.split_field.ensures.first c.split_field.ensures.others
    (c.is_stopped-2.ensures.is c.if-not-is_stopped.false) c.in-Ok.ensures.field

pub returns-in-Err-clause-none : goal.returns-in-Err-clause-none
returns-in-Err-clause-none c =
    no_causes c.args.text.now (c.is_stopped.ensures.other c.if-is_stopped.false)
    (cause_none c.args.text.now _ c.in-Err.field-0 c.split_field.ensures.others c.in-Err.ensures.field)
