use Rattle.plain_commands.specs.ShownStates.{IsShortest}
use Rattle.plain_commands.proofs.shown_states.shortest_shown.Given as goal

-- the shortest of those before
abbrev pub invariant-loop-index : goal.invariant-loop-index
invariant-loop-index l = IsShortest l.test l.outcomes.listed l.index l.shortest
