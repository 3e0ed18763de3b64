use Rattle.std.proofs.Common.{◌≡◌, ℕ, ◌<◌, ◌≤◌}
use Rattle.slab.specs.Slab.{get}
use Rattle.issue_queue.specs.{Queue.stays, Parts.IsSound, Parts.kept}
use Rattle.issue_queue.proofs.parts.QueueParts.squash.Given as goal

-- those under the keys so far are sorted out, and the others haven't changed
abbrev pub invariant-loop-key : goal.invariant-loop-key
invariant-loop-key l = record {
  sound : IsSound l.self;
  capacity : l.self.entries.capacity ≡ l.initial.self.entries.capacity;
  done : (k : ℕ) → k < l.key → get l.self.entries k ≡ kept (stays l.hart l.after) (get l.initial.self.entries k);
  rest : (k : ℕ) → l.key ≤ k → get l.self.entries k ≡ get l.initial.self.entries k;
}
