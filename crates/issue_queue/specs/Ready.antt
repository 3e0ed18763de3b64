-- The ready entries of each kind, by rising number.
use Rattle.std.specs.Prelude.{List}
use Rattle.rv_instr.specs.declared.op.UnitKind.{UnitKind}
use Rattle.rv_instr.specs.declared.op.UnitKind.TheVariants.{Alu, Mul, Mem}
use Rattle.issue_queue.specs.{declared.order.Ready.Ready, declared.ready.ReadyOrders.ReadyOrders}

-- those that a unit of this kind may take up
abbrev pub order_of : UnitKind → ReadyOrders → List Ready
order_of Alu orders = orders.alu
order_of Mul orders = orders.mul
order_of Mem orders = orders.mem
