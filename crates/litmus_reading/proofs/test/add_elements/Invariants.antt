use Rattle.litmus_reading.proofs.Wholes.{ElementsSoFar}
use Rattle.litmus_reading.proofs.test.add_elements.Given as goal

abbrev pub invariant-loop-index : goal.invariant-loop-index
invariant-loop-index l =
    ElementsSoFar l.text l.whole l.name l.index l.initial.locations.items l.locations.items
