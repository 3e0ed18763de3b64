use Rattle.std.proofs.Common.{OnOk}
use Rattle.outcomes.specs.Parts.{IsListing}
use Rattle.outcomes.specs.Refusals.{AreWords}
use Rattle.watched_outcomes.specs.Watching.{AreThere}
use Rattle.outcomes.proofs.Programs.{of_same, so_of_same, unfound_of_same}
use Rattle.outcomes.proofs.Searching.{if_searched_for}
use Rattle.outcomes.proofs.finding.find_within.Goals as goal

pub returns-clause-found : goal.returns-clause-found
returns-clause-found g c =
    of_same (λ image harts. IsListing image harts c.args.watch.now c.args.budget) _ _ _ _
    c.search_all.result c.in-Ok.ensures.image c.in-Ok.ensures.harts c.search_all.ensures.found

pub returns-clause-unfound : goal.returns-clause-unfound
returns-clause-unfound g c =
    unfound_of_same _ _ _ _ c.args.watch.now c.in-Ok.machine.program.targets c.args.targets c.search_all.result
    c.in-Ok.ensures.image c.in-Ok.ensures.harts c.in-Ok.ensures.anywhere c.search_all.ensures.unfound

pub returns-clause-present : goal.returns-clause-present
returns-clause-present g c =
    so_of_same (λ image harts. OnOk c.search_all.result (AreThere harts c.args.watch.now × AreWords image c.args.watch.now))
    _ _ _ _ c.in-Ok.ensures.image c.in-Ok.ensures.harts c.search_all.ensures.present

pub returns-clause-searched : goal.returns-clause-searched
returns-clause-searched g c =
    if_searched_for c.in-Ok.machine.program _ _ c.args.without c.args.targets.anywhere c.args.budget c.search_all.result
    c.in-Ok.ensures.image c.in-Ok.ensures.harts c.in-Ok.ensures.without c.in-Ok.ensures.anywhere
    c.search_all.ensures.searched
