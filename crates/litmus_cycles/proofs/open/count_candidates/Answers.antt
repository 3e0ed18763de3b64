use Rattle.std.proofs.Common.{◌-◌, ◌*◌, ◌^◌, min, ap₂, ◌∙◌}
use Rattle.litmus_cycles.specs.Counts.{all_orders, all_sources}
use Rattle.litmus_cycles.proofs.Products.{stopped}
use Rattle.litmus_cycles.proofs.open.count_candidates.Goals as goal

pub returns : goal.returns
returns c =
    c.saturating_mul.ensures
    ∙ ap₂ (λ a b. min (a * b) (2 ^ 64 - 1)) c.count_all_orders.ensures c.count_all_sources.ensures
    ∙ stopped (2 ^ 64 - 1) (all_orders c.args.events.now c.args.locations)
    (all_sources c.args.events.now c.args.events.now)
