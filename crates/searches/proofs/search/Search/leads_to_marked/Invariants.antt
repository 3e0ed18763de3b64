use Rattle.std.proofs.Common.{ℕ, ◌<◌}
use Rattle.searches.specs.Marks.{IsMarkedAfter}
use Rattle.searches.specs.Found.{edge_at}
use Rattle.searches.proofs.search.Search.leads_to_marked.Given as goal

abbrev pub invariant-loop-hart : goal.invariant-loop-hart
invariant-loop-hart g l = (h : ℕ) → h < l.hart → IsMarkedAfter l.marks (edge_at l.self l.place h) → ⊥
