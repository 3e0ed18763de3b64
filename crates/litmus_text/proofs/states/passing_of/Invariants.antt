use Rattle.std.proofs.Common.{◌≡◌, ◌≤◌, count_by, take}
use Rattle.litmus_text.specs.States.{passes}
use Rattle.litmus_text.proofs.states.passing_of.Given as goal

-- so many of those before
abbrev pub invariant-loop-index : goal.invariant-loop-index
invariant-loop-index l =
    (l.passing ≡ count_by (passes l.test) (take l.index l.outcomes.listed)) × (l.passing ≤ l.index)
