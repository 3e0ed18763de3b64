use Rattle.std.proofs.Common.{◌≡◌, map, take}
use Rattle.outcomes.specs.Found.{core_word}
use Rattle.stress_runs.proofs.end.words_of.Given as goal

-- those of the places before this one
abbrev pub invariant-loop-index : goal.invariant-loop-index
invariant-loop-index l =
    l.numbers.items ≡ map (core_word l.core.setup l.core.past) (take l.index l.watch.words.items)
