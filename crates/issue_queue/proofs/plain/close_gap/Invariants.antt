use Rattle.std.proofs.Common.{◌≡◌, ◌++◌, take, drop}
use Rattle.std.specs.Prelude.{remove}
use Rattle.issue_queue.proofs.plain.close_gap.Given as goal

abbrev pub invariant-loop-i : goal.invariant-loop-i
invariant-loop-i l = l.entries ≡ take l.i (remove l.initial.entries l.place) ++ drop l.i l.initial.entries
