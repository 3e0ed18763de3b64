use Rattle.std.proofs.Common.{◌-◌, ◌*◌, ◌^◌, min, ap, sym, ◌∙◌}
use Rattle.litmus_cycles.specs.Counts.{orders}
use Rattle.litmus_cycles.proofs.Products.{stopped_left, orders_next}
use Rattle.litmus_cycles.proofs.open.+count_orders.Goals as goal

pub returns : goal.returns
returns t c =
    c.saturating_mul.ensures ∙ ap (λ a. min (a * c.args.count) (2 ^ 64 - 1)) c.count_orders.ensures
    ∙ stopped_left (2 ^ 64 - 1) (orders (c.args.count - 1)) c.args.count
    ∙ ap (λ n. min n (2 ^ 64 - 1)) (sym (orders_next c.args.count c.if-count-eq0.false))
