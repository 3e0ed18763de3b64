use Rattle.changed_memory.specs.Places.{AreLower, IsClear}
use Rattle.changed_memory.proofs.changes.find.Given as goal

-- each change so far is of a lower address
abbrev pub invariant-loop-place : goal.invariant-loop-place
invariant-loop-place l = record {
  clear : IsClear l.changes l.addr l.place;
  lower : AreLower l.changes l.addr l.place;
}
