use Rattle.std.proofs.Common.{ℕ, ◌<◌}
use Rattle.searches.specs.Marks.{IsMarked}
use Rattle.searches.proofs.search.Search.first_unmarked.Given as goal

abbrev pub invariant-loop-place : goal.invariant-loop-place
invariant-loop-place g l = (before : ℕ) → before < l.place → IsMarked l.marks before
