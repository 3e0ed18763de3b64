use Rattle.std.proofs.Common.{◌∙◌, ap}
use Rattle.std.specs.Prelude.{count_by}
use Rattle.rv_instr.specs.declared.op.UnitKind.TheVariants.{Alu, Mul, Mem}
use Rattle.chart_counters.proofs.Queued.{is_for, all_wait, waits_for}
use Rattle.chart_counters.proofs.reading.waiting.Goals as goal

pub returns : goal.returns
returns c =
    let core = c.args.core.now in
    let queue = c.parts-registers.result.0.now.queue in
    let agrees = c.parts-registers.ensures.agrees.queue in
    let entries = c.rising-entries.ensures.entries in
    all_wait core.past _ _ _
    (c.count_for.ensures ∙ (ap (count_by (is_for Alu)) (c.as_slice.ensures.value ∙ entries)
    ∙ waits_for core.setup core.past Alu queue agrees))
    (c.count_for-2.ensures ∙ (ap (count_by (is_for Mul)) (c.as_slice-2.ensures.value ∙ entries)
    ∙ waits_for core.setup core.past Mul queue agrees))
    (c.count_for-3.ensures ∙ (ap (count_by (is_for Mem)) (c.as_slice-3.ensures.value ∙ entries)
    ∙ waits_for core.setup core.past Mem queue agrees))
