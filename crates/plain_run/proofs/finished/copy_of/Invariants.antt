use Rattle.std.proofs.Common.{◌≡◌, take}
use Rattle.plain_run.proofs.finished.copy_of.Given as goal

abbrev pub invariant-loop-status : goal.invariant-loop-status
invariant-loop-status l = l.copy.items ≡ take l.status-index l.statuses
