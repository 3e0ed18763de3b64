use Rattle.address_labels.specs.Labels.{marks_of}
use Rattle.sc_machine.specs.Steps.{InEachRun}
use Rattle.rounds.specs.Steps.{HasMade}
use Rattle.rounds.proofs.turn.take_turn.Given as goal

-- so many steps are made
abbrev pub invariant-loop-made : goal.invariant-loop-made
invariant-loop-made g l = InEachRun l.fn.machine (λ setup before. HasMade setup before l.hart l.made l.records (marks_of l.labels)
    (g.W.Write.contents l.fn.out) (g.W.Write.contents l.out) l.machine)
