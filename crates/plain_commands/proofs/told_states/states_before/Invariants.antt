use Rattle.std.proofs.Common.{◌≡◌, ◌≤◌, count_by, take}
use Rattle.litmus_text.specs.States.{passes}
use Rattle.plain_commands.proofs.told_states.states_before.Given as goal

-- so many of those before
abbrev pub invariant-loop-place : goal.invariant-loop-place
invariant-loop-place l =
    ((l.before ≡ count_by (passes l.test) (take l.place l.outcomes.listed)) × (l.before ≤ l.place))
    × (l.place ≤ l.index)
