use Rattle.std.proofs.Common.{◌≡◌, ◌-◌, ◌++◌}
use Rattle.litmus_reading.specs.Looked.{those_named}
use Rattle.litmus_reading.specs.Questions.{elements_from}
use Rattle.litmus_reading.proofs.observed.add_locations.Given as goal

-- those so far, and those of the rest, are all
abbrev pub invariant-loop-index : goal.invariant-loop-index
invariant-loop-index l = l.observed.items
    ++ those_named l.question.condition l.question.filter l.question.listed.observed.items
    (elements_from (l.locations - l.index) l.index)
    ≡ l.initial.observed.items
    ++ those_named l.question.condition l.question.filter l.question.listed.observed.items
    (elements_from l.locations 0)
