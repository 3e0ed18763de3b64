use Rattle.std.proofs.Common.{◌≡◌, ◌-◌, ◌++◌}
use Rattle.litmus_reading.specs.Looked.{harts_from, those_named}
use Rattle.litmus_reading.proofs.observed.observed_of.Given as goal

-- those so far, and those of the rest, are all
abbrev pub invariant-loop-hart : goal.invariant-loop-hart
invariant-loop-hart l = l.observed.items
    ++ those_named l.question.condition l.question.filter l.question.listed.observed.items
    (harts_from (l.harts - l.hart) l.hart)
    ≡ those_named l.question.condition l.question.filter l.question.listed.observed.items (harts_from l.harts 0)
