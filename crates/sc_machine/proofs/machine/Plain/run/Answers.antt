use Rattle.std.proofs.Common.{◌<◌, ◌≤◌, length, get_or, take, reverse, sym, subst, ◌∙◌, arith}
use Rattle.std.proofs.lemmas.List.{take_more, take_all}
use Rattle.sc_machine.specs.Steps.{Runs}
use Rattle.sc_machine.proofs.Running.{runs_more}
use Rattle.sc_machine.proofs.machine.Plain.run.Goals as goal

pub loop-index-preserved : goal.loop-index-preserved
loop-index-preserved c =
    let order = c.args.order.now in
    let k = c.loop-index.index in
    let old = c.args.self.now in
    let new = c.step.new.self in
    let inside : k < length order = omega arith in (
      c.step.ensures.room ∙ c.loop-index.invariant.0,
      subst (λ xs. Runs (reverse xs) old new) (sym (take_more order k 0 inside))
          (runs_more (take k order) (get_or order k 0) c.loop-index.self.room c.in-Ok.field-0 old c.loop-index.self new
          c.loop-index.invariant.1 c.in-Ok.ensures.done),
    )

pub returns-clause-done : goal.returns-clause-done
returns-clause-done c =
    let order = c.args.order.now in
    let end : length order ≤ c.loop-index.index = omega arith in
    subst (λ xs. Runs (reverse xs) c.args.self.now c.loop-index.self) (take_all c.loop-index.index order end)
    c.loop-index.invariant.1
