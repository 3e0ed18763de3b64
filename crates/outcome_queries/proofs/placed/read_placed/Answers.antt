use Rattle.outcome_queries.proofs.Placing.{if_none, placed_none}
use Rattle.outcome_queries.proofs.placed.read_placed.Goals as goal

pub returns-in_err-name-clause-none : goal.returns-in_err-name-clause-none
returns-in_err-name-clause-none c =
    if_none c.from_residual.result _ (placed_none c.args.text.now _ _ c.split_width-width.ensures.whole
    c.split_width-width.ensures.none c.in_err-name.ensures.none)
