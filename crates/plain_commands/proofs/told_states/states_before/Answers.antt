use Rattle.std.proofs.Common.{◌≡◌, ◌<◌, length, arith, ap, ◌∙◌, take, count_by}
use Rattle.litmus_text.specs.States.{passes}
use Rattle.plain_commands.proofs.OfShownStates.{counted, line_is}
use Rattle.plain_commands.proofs.told_states.states_before.Goals as goal

pub loop-place-preserved : goal.loop-place-preserved
loop-place-preserved c =
    let inside : c.loop-place.place < length c.args.outcomes.now.listed =
    omega (arith, c.loop-place-test.true, c.requires.within) in (
      counted (passes c.args.test.now) c.args.outcomes.now.listed c.loop-place.place c.is_state.result
          inside c.is_state.ensures c.loop-place.before c.from-before.result
          c.from-before.ensures c.loop-place.invariant.0,
      omega (arith, c.loop-place-test.true),
    )

pub returns-clause-line : goal.returns-clause-line
returns-clause-line c told =
    let over : c.loop-place.place ≡ c.args.index =
    omega (arith, c.loop-place-test.false, c.loop-place.invariant.1) in
    line_is (passes c.args.test.now) c.args.outcomes.now.listed c.args.index c.loop-place.before told
    (c.loop-place.invariant.0.0
    ∙ ap (λ k. count_by (passes c.args.test.now) (take k c.args.outcomes.now.listed)) over)

pub returns-clause-few : goal.returns-clause-few
returns-clause-few c = omega (arith, c.loop-place.invariant.0.1, c.loop-place.invariant.1)
