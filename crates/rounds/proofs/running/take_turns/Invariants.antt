use Rattle.address_labels.specs.Labels.{marks_of}
use Rattle.rounds.specs.Steps.{OfEachStart}
use Rattle.rounds.proofs.Taking.{HaveHad}
use Rattle.rounds.proofs.running.take_turns.Given as goal

-- there have been turns from each start
abbrev pub invariant-loop-left : goal.invariant-loop-left
invariant-loop-left g l = OfEachStart l.fn.machine (λ setup. HaveHad setup l.rounds l.records (marks_of l.labels)
    (g.W.Write.contents l.fn.out) (g.W.Write.contents l.out) l.left l.number l.last l.machine)

-- the steps that are left
abbrev pub decreases-loop-left : goal.decreases-loop-left
decreases-loop-left g l = l.left
