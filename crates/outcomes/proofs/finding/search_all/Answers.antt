use Rattle.std.proofs.Common.{ap, subst}
use Rattle.condensed_machine.specs.Machine.{Program}
use Rattle.outcomes.specs.Parts.{IsListing}
use Rattle.outcomes.specs.{Refusals.AreWords, Searched.IsSearchedBy}
use Rattle.watched_outcomes.specs.Watching.{AreThere}
use Rattle.outcomes.proofs.Programs.{so_of_same}
use Rattle.outcomes.proofs.finding.search_all.Goals as goal

pub returns-in-Ok-clause-found : goal.returns-in-Ok-clause-found
returns-in-Ok-clause-found g c =
    so_of_same (λ image harts. IsListing image harts c.args.watch.now c.args.budget c.outcomes_of.result) _ _ _ _
    (ap (λ (p : Program). p.image) c.see_all.ensures.program) (ap (λ (p : Program). p.harts) c.see_all.ensures.program)
    c.outcomes_of.ensures.found

pub returns-in-Ok-clause-present : goal.returns-in-Ok-clause-present
returns-in-Ok-clause-present g c =
    so_of_same (λ image harts. AreThere harts c.args.watch.now × AreWords image c.args.watch.now) _ _ _ _
    (ap (λ (p : Program). p.image) c.see_all.ensures.program) (ap (λ (p : Program). p.harts) c.see_all.ensures.program)
    (c.in-Ok.ensures.registers, c.in-Ok.ensures.words)

pub returns-in-Ok-clause-searched : goal.returns-in-Ok-clause-searched
returns-in-Ok-clause-searched g c =
    subst (λ p. IsSearchedBy p c.args.budget c.outcomes_of.result) c.see_all.ensures.program c.outcomes_of.ensures.searched
