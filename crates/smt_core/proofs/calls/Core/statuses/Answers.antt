use Rattle.std.proofs.Common.{◌∙◌, ◌++◌, ◌∷◌, [], ap, sym, arith}
use Rattle.core_state.specs.View.{CoreView}
use Rattle.smt_core.proofs.Headline.{status_in, statuses_fit, statuses_next}
use Rattle.smt_core.proofs.calls.Core.statuses.Goals as goal

pub push-requires : goal.push-requires
push-requires c =
    let fits = statuses_fit c.args.self.now.past c.loop-hart.hart c.loop-hart.statuses.items c.loop-hart.invariant in
    let inside = c.loop-hart-test.true in
    let harts = c.harts-hart-end.ensures.range in
    (omega arith, omega arith)

pub loop-hart-preserved : goal.loop-hart-preserved
loop-hart-preserved c =
    let there = c.loop-hart-test.true in
    let harts = c.harts-hart-end.ensures.value in
    let same = ap (λ (v : CoreView). v.setup.harts) (c.deref.ensures ∙ sym c.deref-in-loop-hart.ensures) in
    let is = status_in c.deref-in-loop-hart.result.now c.args.self.now c.loop-hart.hart c.unwrap.result c.status.result
    (c.deref-in-loop-hart.ensures ∙ c.self.view_is) (omega (arith, there, harts, same))
    c.status.ensures c.unwrap.ensures in
    c.push.ensures.items ∙ ap (λ s. c.loop-hart.statuses.items ++ s ∷ []) is
    ∙ statuses_next c.args.self.now.past c.loop-hart.hart c.loop-hart.statuses.items c.loop-hart.invariant
