use Rattle.std.proofs.Common.{sym, ◌∙◌}
use Rattle.litmus_cycles.proofs.Wholes.{none_refused, none_vain}
use Rattle.litmus_cycles.proofs.searching.choose.Goals as goal

pub returns-then-not-may_choose-clause-none : goal.returns-then-not-may_choose-clause-none
returns-then-not-may_choose-clause-none c =
    let asked = c.args.asked.now in
    λ none rest ready. none_refused asked.test.now asked.runs.now asked.chosen.now asked.demand c.args.what rest
    c.args.events.now c.args.choice (sym c.may_choose.ensures ∙ c.if-not-may_choose.true)

pub returns-then-not-may_come-clause-none : goal.returns-then-not-may_come-clause-none
returns-then-not-may_come-clause-none c =
    let asked = c.args.asked.now in
    λ none rest ready. none_vain asked.test.now asked.runs.now asked.chosen.now asked.demand c.args.what rest
    c.args.events.now c.as_slice.result.now c.args.choice (sym c.may_choose.ensures ∙ c.if-not-may_choose.false)
    (c.as_slice.ensures.value ∙ c.in_ok-next.ensures) ready (c.may_come.ensures.none c.if-not-may_come.true rest)
