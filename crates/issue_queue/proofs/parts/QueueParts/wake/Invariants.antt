use Rattle.std.proofs.Common.{◌≡◌, ℕ}
use Rattle.std.specs.Option.{option_map}
use Rattle.slab.specs.Slab.{get}
use Rattle.issue_queue.specs.{Entry.woken_entry, Parts.IsSound}
use Rattle.issue_queue.proofs.Counting.{count_waiting}
use Rattle.issue_queue.proofs.parts.QueueParts.wake.Given as goal

-- each entry wakes to what it woke to at first
abbrev pub invariant-loop-node : goal.invariant-loop-node
invariant-loop-node l = record {
  sound : IsSound l.self;
  capacity : l.self.entries.capacity ≡ l.initial.self.entries.capacity;
  woken : (k : ℕ) → option_map (woken_entry l.register l.value) (get l.self.entries k)
      ≡ option_map (woken_entry l.register l.value) (get l.initial.self.entries k);
}

-- the sources that still wait
abbrev pub decreases-loop-node : goal.decreases-loop-node
decreases-loop-node l = count_waiting l.self.entries l.register
