use Rattle.plain_commands.proofs.OfOutcomes.{order_step}
use Rattle.plain_commands.proofs.written_orders.write_order.Goals as goal

pub loop-hart-preserved : goal.loop-hart-preserved
loop-hart-preserved g c =
    order_step _ _ _ c.args.order.now c.loop-hart.hart-index 0 c.loop-hart-test.true c.loop-hart.invariant
    c.in_ok-write_hart.ensures
