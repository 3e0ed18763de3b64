use Rattle.std.proofs.Common.{◌≡◌, map}
use Rattle.smt_model.specs.{Basics.below, Memory.status}
use Rattle.smt_core.proofs.calls.Core.statuses.Given as goal

abbrev pub invariant-loop-hart : goal.invariant-loop-hart
invariant-loop-hart l = l.statuses.items ≡ map (status l.self.past) (below l.hart)
