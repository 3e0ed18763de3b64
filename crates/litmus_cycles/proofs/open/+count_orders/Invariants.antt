use Rattle.litmus_cycles.proofs.open.+count_orders.Given as goal

abbrev pub decreases-count_orders : goal.decreases-count_orders
decreases-count_orders l = l.count
