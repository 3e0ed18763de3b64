use Rattle.plain_commands.proofs.OfDrawnOrders.{drawing_refusal}
use Rattle.plain_commands.proofs.drawn_orders.rows_of.Goals as goal

pub returns-in-Ok-rows_of_order-clause-rows : goal.returns-in-Ok-rows_of_order-clause-rows
returns-in-Ok-rows_of_order-clause-rows c setup of_image of_harts =
    let has = c.in-Ok-rows_of_order.ensures.rows setup (c.in-Ok.ensures.ok.agrees setup of_image of_harts) in
    has.rows_are

pub returns-clause-refused : goal.returns-clause-refused
returns-clause-refused c =
    rw c.undrawn_for.ensures
    (drawing_refusal c.args.image.now c.args.harts c.args.order.now c.in-Ok.machine c.in-Err.why c.in-Ok.ensures.ok
    c.in-Err.ensures.undrawn)
