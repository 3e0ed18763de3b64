use Rattle.smt_laws.proofs.Stated.{goes_down_in_order, leaves_nothing}
use Rattle.smt_laws.proofs.histories.goes_in_order.Goals as goal

pub returns-clause-order : goal.returns-clause-order
returns-clause-order c = goes_down_in_order

pub returns-clause-left : goal.returns-clause-left
returns-clause-left c = leaves_nothing
