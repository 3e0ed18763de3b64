use Rattle.std.proofs.Common.{◌≡◌, ◌∙◌, length, map, ap, arith}
use Rattle.std.proofs.lemmas.List.{length_push}
use Rattle.smt_model.specs.Basics.{below}
use Rattle.plain_run.proofs.Running.{statuses_more}
use Rattle.plain_run.proofs.order.statuses_of.Goals as goal

pub loop-hart-preserved : goal.loop-hart-preserved
loop-hart-preserved c =
    let xs = c.loop-hart.statuses.items in
    let x = c.status.result in
    let grows = ap length c.push.ensures.items ∙ length_push xs x in (
      omega arith,
      λ setup s agrees.
          c.push.ensures.items ∙ statuses_more s c.loop-hart.hart xs x (c.loop-hart.invariant.1 setup s agrees)
          (c.status.ensures setup s agrees),
    )

pub returns : goal.returns
returns c = λ setup s agrees.
    let all : c.loop-hart.hart ≡ setup.harts = omega (arith, agrees.count, c.harts-hart-end.ensures.value) in
    c.loop-hart.invariant.1 setup s agrees ∙ ap (λ n. map s.statuses (below n)) all
