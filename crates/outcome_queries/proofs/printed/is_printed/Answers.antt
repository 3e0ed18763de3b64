use Rattle.outcome_queries.proofs.Bytes.{as_told}
use Rattle.outcome_queries.proofs.printed.is_printed.Goals as goal

pub returns : goal.returns
returns c = as_told c.args.digits.now _ c.are_digits_of.result c.are_digits_of.ensures.is c.are_digits_of.ensures.other
