use Rattle.condensed_machine.specs.Settling.{LeadsLocally}
use Rattle.condensed_machine.proofs.settling.settle.Given as goal

abbrev pub invariant-loop-steps : goal.invariant-loop-steps
invariant-loop-steps l = LeadsLocally l.start.image l.targets l.is_free l.initial.hart l.steps l.hart
