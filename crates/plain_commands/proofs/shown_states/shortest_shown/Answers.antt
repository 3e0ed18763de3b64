use Rattle.std.proofs.Common.{◌≤◌, length, arith}
use Rattle.plain_commands.proofs.OfShownStates.{inside, none_before, of_all}
use Rattle.plain_commands.proofs.shown_states.shortest_shown.Goals as goal

pub loop-index-init : goal.loop-index-init
loop-index-init c = none_before c.args.test.now c.args.outcomes.now.listed

pub loop-index-preserved : goal.loop-index-preserved
loop-index-preserved c = c.in-Ok.ensures.shorter c.loop-index.invariant

pub returns-clause-shortest : goal.returns-clause-shortest
returns-clause-shortest c =
    let over : length c.args.outcomes.now.listed ≤ c.loop-index.index =
    omega (arith, c.loop-index-test.false, c.count-index-end.ensures) in
    of_all c.args.test.now c.args.outcomes.now.listed c.loop-index.index c.loop-index.shortest over
    c.loop-index.invariant

pub returns-clause-inside : goal.returns-clause-inside
returns-clause-inside c =
    inside c.args.test.now c.args.outcomes.now.listed c.loop-index.index c.loop-index.shortest c.loop-index.invariant
