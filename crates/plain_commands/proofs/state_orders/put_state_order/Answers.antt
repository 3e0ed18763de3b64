-- An order is refused only where one is asked.
use Rattle.std.proofs.Common.{ap, inr, sym, ◌∙◌, is_some}
use Rattle.plain_commands.proofs.state_orders.put_state_order.Goals as goal

pub returns-in-Err-clause-refused : goal.returns-in-Err-clause-refused
returns-in-Err-clause-refused g c =
    inr (ap is_some (sym c.state_asked.ensures ∙ c.in-Some.is), c.in-Err.ensures.refused)
