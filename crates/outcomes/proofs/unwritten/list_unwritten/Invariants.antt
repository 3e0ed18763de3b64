use Rattle.std.proofs.Common.{◌≡◌, map, take}
use Rattle.outcomes.specs.Collected.{is_unwritten}
use Rattle.outcomes.proofs.unwritten.list_unwritten.Given as goal

-- so it is of the places before this one
abbrev pub invariant-loop-index : goal.invariant-loop-index
invariant-loop-index l =
    l.unwritten.items ≡ map (is_unwritten l.machine l.search.states) (take l.index l.watch.words.items)
