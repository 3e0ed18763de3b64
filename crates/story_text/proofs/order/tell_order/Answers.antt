use Rattle.std.proofs.Common.{◌≡◌, ◌∙◌, ◌<◌, ◌≤◌, length, get_or, take, sym, subst, refl, arith}
use Rattle.std.proofs.lemmas.List.{take_all, take_more, length-take-le}
use Rattle.story_text.specs.{Order.IsUntold, Telling.most_told, Text.plan_of}
use Rattle.story_text.proofs.Ordering.{IsSoFar, ended, none_yet, one_more, untold}
use Rattle.story_text.proofs.order.tell_order.Goals as goal

pub loop-index-init : goal.loop-index-init
loop-index-init g c = (
  refl,
  λ setup agrees. none_yet (plan_of c.args.form.now) setup _ _ _ _ agrees (c.new-telling.ensures c.args.form.now.all)
      c.in-Ok.ensures,
)

pub loop-index-preserved : goal.loop-index-preserved
loop-index-preserved g c =
    let order = c.args.order.now in
    let k = c.loop-index.index in
    let inside = c.loop-index-test.true in
    let short : length (take k order) ≡ k = length-take-le k order (omega arith) in
    let few : length (take k order) < most_told = omega arith in (
      c.tell_and_step.ensures.room ∙ c.loop-index.invariant.0,
      λ setup agrees.
          subst (λ xs. IsSoFar (plan_of c.args.form.now) setup xs (g.W.Write.contents c.args.out.now)
          (g.W.Write.contents c.tell_and_step.new.out) c.tell_and_step.new.telling c.tell_and_step.new.machine)
          (sym (take_more order k 0 inside))
          (one_more (plan_of c.args.form.now) setup (take k order) (get_or order k 0) _ _ _ _ _ _ _
          (c.loop-index.invariant.1 setup agrees) few c.in-Ok-tell_and_step.ensures.told),
    )

pub returns-in-Err-tell_and_step-clause-untold : goal.returns-in-Err-tell_and_step-clause-untold
returns-in-Err-tell_and_step-clause-untold g c =
    subst (IsUntold c.args.order.now c.args.machine.now) (sym c.untold_at.ensures)
    (untold (plan_of c.args.form.now) c.args.order.now c.loop-index.index _ _ c.loop-index.telling c.args.machine.now
    c.loop-index.machine c.in-Err-tell_and_step.why c.loop-index-test.true c.loop-index.invariant.0 c.requires.harts
    c.loop-index.invariant.1 c.in-Err-tell_and_step.ensures.unmade)

pub returns-in-Ok-finish-clause-told : goal.returns-in-Ok-finish-clause-told
returns-in-Ok-finish-clause-told g c = λ setup agrees.
    let plan = plan_of c.args.form.now in
    let order = c.args.order.now in
    let end : length order ≤ c.loop-index.index = omega arith in
    let so = subst (λ xs. IsSoFar plan setup xs (g.W.Write.contents c.args.out.now)
    (g.W.Write.contents c.loop-index.out) c.loop-index.telling c.loop-index.machine)
    (take_all c.loop-index.index order end) (c.loop-index.invariant.1 setup agrees) in
    ended plan setup order _ _ _ c.loop-index.telling c.loop-index.machine so
    (c.in-Ok-finish.ensures plan.all _ so.told)
