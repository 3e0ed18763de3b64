use Rattle.std.proofs.Common.{◌∙◌, ◌≤◌, List, [], length, get_or, take, sym, subst, refl, arith}
use Rattle.std.proofs.lemmas.List.{take_all, take_more}
use Rattle.stories.specs.declared.row.Row.{Row}
use Rattle.story_pictures.specs.{Form.most_rows, Order.IsUndrawn}
use Rattle.story_pictures.proofs.Ordering.{IsDrawn, none_drawn, one_drawn, undrawn}
use Rattle.story_pictures.proofs.order.rows_of_order.Goals as goal

pub loop-index-init : goal.loop-index-init
loop-index-init c = (
  refl,
  subst (λ (xs : List Row). length xs ≤ most_rows) (sym c.new-rows.ensures.items) (omega arith),
  λ setup agrees.
      subst (λ (xs : List Row). IsDrawn setup [] xs c.args.machine.now) (sym c.new-rows.ensures.items)
      (none_drawn setup _ agrees),
)

pub loop-index-preserved : goal.loop-index-preserved
loop-index-preserved c =
    let order = c.args.order.now in
    let k = c.loop-index.index in
    let inside = c.loop-index-test.true in (
      c.draw_and_step.ensures.room ∙ c.loop-index.invariant.0,
      c.in-Ok.ensures.few,
      λ setup agrees.
          subst (λ xs. IsDrawn setup xs c.draw_and_step.new.rows.items c.draw_and_step.new.machine)
          (sym (take_more order k 0 inside))
          (one_drawn setup (take k order) (get_or order k 0) _ _ _ _ (c.loop-index.invariant.2 setup agrees)
          c.in-Ok.ensures.drawn),
    )

pub returns-in-Err-clause-undrawn : goal.returns-in-Err-clause-undrawn
returns-in-Err-clause-undrawn c =
    let order = c.args.order.now in
    let k = c.loop-index.index in
    subst (IsUndrawn order c.args.machine.now) (sym c.undrawn_at.ensures)
    (undrawn order k c.loop-index.rows.items c.args.machine.now c.loop-index.machine c.in-Err.why
    c.loop-index-test.true c.loop-index.invariant.0 (take_more order k 0 c.loop-index-test.true)
    c.loop-index.invariant.2 c.in-Err.ensures.unmade)

pub returns-clause-rows : goal.returns-clause-rows
returns-clause-rows c = λ setup agrees.
    let order = c.args.order.now in
    let end : length order ≤ c.loop-index.index = omega arith in
    let so = subst (λ xs. IsDrawn setup xs c.loop-index.rows.items c.loop-index.machine)
    (take_all c.loop-index.index order end) (c.loop-index.invariant.2 setup agrees) in
    record { ran = so.ran; runs = so.runs; rows_are = so.rows_are }
