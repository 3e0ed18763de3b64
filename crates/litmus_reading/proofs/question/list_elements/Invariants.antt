use Rattle.std.proofs.Common.{◌≡◌, ◌+◌, ◌-◌, ◌++◌}
use Rattle.litmus_reading.specs.Names.{elements_of}
use Rattle.litmus_reading.specs.Questions.{elements_from}
use Rattle.litmus_reading.proofs.question.list_elements.Given as goal

-- those so far, and those of the rest, are all
abbrev pub invariant-loop-element : goal.invariant-loop-element
invariant-loop-element l =
    l.listed.items ++ elements_from (elements_of l.declared - l.element) (l.declared.first + l.element)
    ≡ l.initial.listed.items ++ elements_from (elements_of l.declared) l.declared.first
