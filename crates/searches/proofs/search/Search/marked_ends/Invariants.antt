use Rattle.std.proofs.Common.{◌≡◌, ℕ, ◌<◌, length, slice_get, Some}
use Rattle.std.specs.Prelude.{◌↔◌}
use Rattle.searches.specs.Marks.{IsMarked}
use Rattle.searches.proofs.search.Search.marked_ends.Given as goal

abbrev pub invariant-loop-end : goal.invariant-loop-end
invariant-loop-end g l = record {
  paired : length l.marks.items ≡ length l.self.states;
  exact : (place : ℕ) → IsMarked l.marks.items place
      ↔ ((k : ℕ) × (k < l.end-index) × (slice_get l.end-items k ≡ Some place));
}
