use Rattle.outcome_queries.proofs.Outside.{parts_found, place_found}
use Rattle.outcome_queries.proofs.quoted.split_outside.Goals as goal

pub returns-clause-found : goal.returns-clause-found
returns-clause-found c =
    parts_found c.args.separator c.in_ok-place.place c.args.text.now c.in_ok-place.ensures.place

pub returns-clause-place : goal.returns-clause-place
returns-clause-place c =
    place_found c.args.separator c.in_ok-place.place c.args.text.now c.in_ok-place.ensures.inside
    c.in_ok-place.ensures.place
