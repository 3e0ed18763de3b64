use Rattle.plain_commands.proofs.OfStateOrders.{IsLeft}
use Rattle.plain_commands.proofs.state_orders.index_of_state.Given as goal

-- so many final states are left before the one that is wanted
abbrev pub invariant-loop-index : goal.invariant-loop-index
invariant-loop-index l = IsLeft l.test l.outcomes.listed l.state l.index l.left
