use Rattle.std.proofs.Common.{◌≡◌, map, take}
use Rattle.condensed_machine.specs.Decoded.{state_of}
use Rattle.watched_outcomes.specs.Endings.{watched_in}
use Rattle.outcomes.proofs.collecting.registers_of.Given as goal

-- those of the registers before this one
abbrev pub invariant-loop-watched : goal.invariant-loop-watched
invariant-loop-watched l =
    l.numbers.items ≡ map (watched_in (state_of l.machine l.state)) (take l.watched-index l.watched-items)
