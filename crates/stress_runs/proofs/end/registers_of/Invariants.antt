use Rattle.std.proofs.Common.{◌≡◌, map, take}
use Rattle.outcomes.specs.Found.{committed_in}
use Rattle.stress_runs.proofs.end.registers_of.Given as goal

-- those of the registers before this one
abbrev pub invariant-loop-watched : goal.invariant-loop-watched
invariant-loop-watched l =
    l.numbers.items ≡ map (committed_in l.core.setup l.core.past) (take l.watched-index l.watched-items)
