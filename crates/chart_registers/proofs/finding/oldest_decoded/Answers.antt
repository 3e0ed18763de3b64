use Rattle.chart_registers.proofs.Latched.{at_hart, none_if, oldest_if}
use Rattle.chart_registers.proofs.finding.oldest_decoded.Goals as goal

pub returns-clause-some : goal.returns-clause-some
returns-clause-some c =
    let core = c.args.core.now in
    let parts = c.parts-registers in
    oldest_if core c.args.hart c.index.result.now c.oldest_in.result c.requires
    (at_hart core parts.result.0.now c.args.hart c.from.result c.index.result.now parts.ensures.agrees parts.ensures.harts
    c.requires c.from.ensures c.index.ensures)
    c.oldest_in.ensures

pub returns-clause-none : goal.returns-clause-none
returns-clause-none c =
    let core = c.args.core.now in
    let parts = c.parts-registers in
    none_if core c.args.hart c.index.result.now c.oldest_in.result
    (at_hart core parts.result.0.now c.args.hart c.from.result c.index.result.now parts.ensures.agrees parts.ensures.harts
    c.requires c.from.ensures c.index.ensures)
    c.oldest_in.ensures
