use Rattle.std.proofs.Common.{◌-◌, ◌*◌, ◌^◌, min, ap, ap₂, sym, ◌∙◌}
use Rattle.litmus_cycles.specs.{Choices.writes_at, Counts.orders, Counts.all_orders}
use Rattle.litmus_cycles.proofs.Products.{stopped, all_orders_next}
use Rattle.litmus_cycles.proofs.open.+count_all_orders.Goals as goal

pub returns : goal.returns
returns t c =
    let before = c.args.locations - 1 in
    c.saturating_mul.ensures
    ∙ ap₂ (λ a b. min (a * b) (2 ^ 64 - 1)) c.count_all_orders.ensures
    (c.count_orders.ensures ∙ ap (λ n. min (orders n) (2 ^ 64 - 1)) c.count_writes-count.ensures)
    ∙ stopped (2 ^ 64 - 1) (all_orders c.args.events.now before) (orders (writes_at before c.args.events.now))
    ∙ ap (λ n. min n (2 ^ 64 - 1))
    (sym (all_orders_next c.args.events.now c.args.locations c.if-locations-eq0.false))
