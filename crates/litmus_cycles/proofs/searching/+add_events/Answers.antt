use Rattle.std.proofs.Common.{◌∙◌}
use Rattle.std.proofs.lemmas.Result.{IfOk-weaker}
use Rattle.litmus_cycles.proofs.Opening.{events_next}
use Rattle.litmus_cycles.proofs.searching.+add_events.Goals as goal

pub returns : goal.returns
returns t c = IfOk-weaker c.add_events.result _ _ (λ fit said yes.
    events_next c.args.runs.now.harts.items c.args.hart c.len-first.result c.saturating_add-2.result c.args.chosen.now c.in-Some.accesses.now
    c.args.events.now.items c.add_accesses.new.events.items c.add_events.new.events.items
    (c.len-first.ensures ∙ c.args.events.now.ok.0) c.saturating_add-2.ensures c.in-len1-up.len_at_least
    c.in-Some.ensures c.in_ok-add_accesses.ensures (said yes)) c.add_events.ensures
