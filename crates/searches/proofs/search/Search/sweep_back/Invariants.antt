use Rattle.std.proofs.Common.{◌≤◌, length}
use Rattle.searches.specs.Marks.{AreMarks, MarksFrom}
use Rattle.searches.proofs.search.Search.sweep_back.Given as goal

abbrev pub invariant-loop-place : goal.invariant-loop-place
invariant-loop-place g l = record {
  marks : AreMarks l.self l.marks;
  inside : l.place ≤ length l.self.states;
  more : MarksFrom l.self l.place l.initial.marks l.marks l.is_more;
}

abbrev pub decreases-loop-place : goal.decreases-loop-place
decreases-loop-place g l = l.place
