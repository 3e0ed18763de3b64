use Rattle.std.proofs.Common.{rules}
use Rattle.plain_commands.proofs.OfDrawnOrders.{putting_refusal}
use Rattle.plain_commands.proofs.drawn_orders.put_picture.Goals as goal

pub returns-in-Err-clause-refused : goal.returns-in-Err-clause-refused
returns-in-Err-clause-refused g c =
    putting_refusal c.args.image.now c.args.harts c.args.order.now _ (search rules) c.in-Err.refused
    c.in-Err.ensures.refused
