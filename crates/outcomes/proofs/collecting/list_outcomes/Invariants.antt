use Rattle.outcomes.specs.Lists.{AreOnce}
use Rattle.outcomes.proofs.Collected.{AreOutcomesBefore}
use Rattle.outcomes.proofs.collecting.list_outcomes.Given as goal

-- those of the ends before this one
abbrev pub invariant-loop-index : goal.invariant-loop-index
invariant-loop-index l =
    AreOutcomesBefore l.machine l.watch l.search.states l.search.ends l.index l.listed.items × AreOnce l.listed.items
