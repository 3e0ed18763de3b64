use Rattle.outcome_queries.proofs.FirstNames.{none_asked}
use Rattle.outcome_queries.proofs.Placing.{if_none}
use Rattle.outcome_queries.proofs.naming.name_asked.Goals as goal

pub returns-in_err-placed-clause-none : goal.returns-in_err-placed-clause-none
returns-in_err-placed-clause-none c =
    if_none c.from_residual.result _ (none_asked c.args.text.now _ _ _ _ _ _ _ c.before-listed.ensures
    c.before-joined.ensures c.before-equals.ensures c.before-below.ensures c.before-least.ensures c.before-left.ensures
    c.trimmed.ensures c.in_err-placed.ensures.none)
