use Rattle.std.proofs.Common.{◌≡◌, drop}
use Rattle.issue_queue.specs.Queue.{has_number}
use Rattle.issue_queue.proofs.plain.place_with.Given as goal

abbrev pub invariant-loop-i : goal.invariant-loop-i
invariant-loop-i l = has_number l.seq l.entries ≡ has_number l.seq (drop l.i l.entries)
