use Rattle.std.proofs.Common.{◌≢◌, ℕ, ◌<◌, Some}
use Rattle.issue_queue.specs.Parts.{waits_at}
use Rattle.issue_queue.proofs.parts.QueueParts.search_waiting.Given as goal

-- no node so far waits for the register
abbrev pub invariant-loop-node : goal.invariant-loop-node
invariant-loop-node l = (n : ℕ) → n < l.node → waits_at l.self.entries n ≢ Some l.register
