use Rattle.std.proofs.Common.{◌≡◌, ◌++◌}
use Rattle.condensed_machine.specs.Steps.{turns}
use Rattle.outcomes.proofs.outcomes.push_row.Given as goal

-- the turns of the harts below this one are made
abbrev pub invariant-loop-hart : goal.invariant-loop-hart
invariant-loop-hart l = l.order.items ≡ l.fn.order.items ++ turns l.row l.hart
