use Rattle.std.proofs.Common.{◌≡◌, ◌≤◌, count_by, take}
use Rattle.litmus_text.specs.States.{is_held}
use Rattle.litmus_text.proofs.states.held_of.Given as goal

-- so many of those before
abbrev pub invariant-loop-index : goal.invariant-loop-index
invariant-loop-index l =
    (l.held ≡ count_by (is_held l.test) (take l.index l.outcomes.listed)) × (l.held ≤ l.index)
