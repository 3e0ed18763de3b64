use Rattle.outcomes.proofs.Searching.{if_searched_some, searched_some}
use Rattle.outcomes.proofs.finding.find_in_passes.Goals as goal

pub returns-in-Ok-find_within-clause-searched : goal.returns-in-Ok-find_within-clause-searched
returns-in-Ok-find_within-clause-searched g c =
    searched_some c.args.image.now c.args.harts c.args.without _ c.args.budget c.in-Ok-find_within.found
    c.in-Ok-find_within.ensures.searched

pub returns-clause-searched : goal.returns-clause-searched
returns-clause-searched g c =
    if_searched_some c.args.image.now c.args.harts c.args.without _ c.args.budget c.find_anywhere.result
    c.find_anywhere.ensures.searched
