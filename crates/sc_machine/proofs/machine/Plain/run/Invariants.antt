use Rattle.std.proofs.Common.{◌≡◌, take, reverse}
use Rattle.sc_machine.specs.Steps.{Runs}
use Rattle.sc_machine.proofs.machine.Plain.run.Given as goal

-- the steps below this one are made
abbrev pub invariant-loop-index : goal.invariant-loop-index
invariant-loop-index l = (l.self.room ≡ l.fn.self.room) × Runs (reverse (take l.index l.order)) l.fn.self l.self
