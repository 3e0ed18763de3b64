use Rattle.std.proofs.Common.{◌≡◌, ◌-◌, ◌++◌}
use Rattle.litmus_reading.specs.Looked.{registers_from, those_named}
use Rattle.litmus_reading.proofs.observed.add_registers.Given as goal

-- those so far, and those of the rest, are all
abbrev pub invariant-loop-register : goal.invariant-loop-register
invariant-loop-register l = l.observed.items
    ++ those_named l.question.condition l.question.filter l.question.listed.observed.items
    (registers_from (32 - l.register) l.hart l.register)
    ≡ l.initial.observed.items
    ++ those_named l.question.condition l.question.filter l.question.listed.observed.items (registers_from 31 l.hart 1)
