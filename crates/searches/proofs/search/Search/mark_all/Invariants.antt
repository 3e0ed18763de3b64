use Rattle.searches.specs.Marks.{AreMarks, unmarked}
use Rattle.searches.proofs.search.Search.mark_all.Given as goal

abbrev pub invariant-loop : goal.invariant-loop
invariant-loop g l = AreMarks l.self l.marks

abbrev pub decreases-loop : goal.decreases-loop
decreases-loop g l = unmarked l.marks
