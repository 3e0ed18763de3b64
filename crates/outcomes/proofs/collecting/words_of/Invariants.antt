use Rattle.std.proofs.Common.{◌≡◌, map, take}
use Rattle.condensed_machine.specs.Decoded.{state_of}
use Rattle.watched_outcomes.specs.Endings.{word_in}
use Rattle.outcomes.proofs.collecting.words_of.Given as goal

-- those of the words before this one
abbrev pub invariant-loop-index : goal.invariant-loop-index
invariant-loop-index l =
    l.numbers.items ≡ map (word_in (state_of l.machine l.state)) (take l.index l.watch.words.items)
