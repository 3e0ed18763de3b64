use Rattle.std.proofs.Common.{◌≡◌, take}
use Rattle.issue_queue.proofs.plain.copy_of.Given as goal

-- the first of them are copied
abbrev pub invariant-loop-entry : goal.invariant-loop-entry
invariant-loop-entry l = l.copy.items ≡ take l.entry-index l.entries
