use Rattle.std.proofs.Common.{◌∙◌, sym, subst, ap, is_ok}
use Rattle.issue_queue.specs.Order.{AreReadyRising, in_order}
use Rattle.issue_queue.proofs.Ordered.{inserted_at}
use Rattle.issue_queue.proofs.order.Order.insert.Goals as goal

pub returns : goal.returns
returns c =
    let xs = c.self.inside.entries.items in
    let lent = c.as_slice.ensures.value in
    let placed = rw (ap is_ok c.unwrap.ensures) at c.insert.ensures.items in
    placed
    ∙ inserted_at c.args.ready c.args.ready c.place_for-place.result xs
    (subst AreReadyRising (sym c.self.view_is) c.requires.rising)
    (rw lent at c.place_for-place.ensures.inside) (rw lent at c.place_for-place.ensures.above)
    (rw lent at c.place_for-place.ensures.below)
    ∙ ap (in_order c.args.ready) c.self.view_is
