use Rattle.issue_queue.proofs.Finding.{IsPartly}
use Rattle.issue_queue.proofs.slab_queue.rising_of.Given as goal

-- the entries under the keys so far stand in it, and no others
abbrev pub invariant-loop-key : goal.invariant-loop-key
invariant-loop-key l = IsPartly l.parts.entries l.key l.rising.items
