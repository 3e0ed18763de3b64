use Rattle.litmus_cycles.proofs.open.+count_all_orders.Given as goal

abbrev pub decreases-count_all_orders : goal.decreases-count_all_orders
decreases-count_all_orders l = l.locations
