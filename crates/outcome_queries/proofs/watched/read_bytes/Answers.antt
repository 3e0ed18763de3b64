use Rattle.outcome_queries.proofs.Reading.{bytes_found, no_address, no_width}
use Rattle.outcome_queries.proofs.watched.read_bytes.Goals as goal

pub returns-in-Ok-clause-found : goal.returns-in-Ok-clause-found
returns-in-Ok-clause-found c =
    bytes_found c.args.text.now _ _ c.in-Ok.address c.in-Some.width c.split_width-width.ensures.whole c.in-Some.is
    c.in-Ok.ensures.field

pub returns-in-Err-clause-none : goal.returns-in-Err-clause-none
returns-in-Err-clause-none c =
    no_address c.args.text.now _ _ c.in-Some.width c.in-Err.field-0 c.split_width-width.ensures.whole c.in-Some.is
    c.in-Err.ensures.field

pub returns-in_default-clause-none : goal.returns-in_default-clause-none
returns-in_default-clause-none c = no_width c.args.text.now _ c.split_width-width.ensures.none c.in_default.is
