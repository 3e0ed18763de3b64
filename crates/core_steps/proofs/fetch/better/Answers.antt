-- The best after a hart more.
use Rattle.std.proofs.Common.{sym, arith}
use Rattle.core_steps.proofs.{Steps.Fetch.Choice.better-start, Steps.Fetch.Choice.better-step}
use Rattle.core_steps.proofs.{fetch.better.Goals.then-is_better, fetch.better.Goals.else-is_better}
use Rattle.core_steps.proofs.fetch.better.Goals as goal

pub loop-hart-init : goal.loop-hart-init
loop-hart-init c = (sym (better-start c.args.harts.now c.args.best c.args.from), c.requires.inside)

pub loop-hart-preserved : goal.loop-hart-preserved
loop-hart-preserved c =
    let best = c.loop-hart.best in
    let i = c.loop-hart.hart in
    let step = better-step c.args.harts.now c.args.best c.args.from i best c.if-is_better.best c.is_better.result
    c.loop-hart.auto.hart
    c.loop-hart.invariant.0 c.is_better.ensures in
    elim c.if-is_better.branch [
      | then-is_better w ↦ (
        step (rw w.if-is_better.true w.best-is),
        rw w.best-is (let under = c.loop-hart-test.true in let end = c.requires.end in omega arith),
      )
      | else-is_better w ↦ (step (rw w.if-is_better.false w.best-is), rw w.best-is c.loop-hart.invariant.1)
    ]
