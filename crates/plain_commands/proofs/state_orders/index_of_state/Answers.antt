use Rattle.std.proofs.Common.{arith, rules, ◌≤◌, ◌-◌, length}
use Rattle.plain_commands.proofs.OfStateOrders.{as_many, found_here, lacks, none_left, one_less}
use Rattle.plain_commands.proofs.state_orders.index_of_state.Goals as goal

pub loop-index-init : goal.loop-index-init
loop-index-init c = none_left c.args.test.now c.args.outcomes.now.listed c.args.state

pub loop-index-preserved-then-not-is_state : goal.loop-index-preserved-then-not-is_state
loop-index-preserved-then-not-is_state c =
    as_many c.args.test.now c.args.outcomes.now.listed c.args.state c.loop-index.index _ c.loop-index.left
    c.is_state.result c.loop-index-test.true c.count-index-end.ensures c.is_state.ensures c.loop-index.invariant
    (search rules)

pub returns-then-left-eq0-clause-found : goal.returns-then-left-eq0-clause-found
returns-then-left-eq0-clause-found c =
    found_here c.args.test.now c.args.outcomes.now.listed c.args.state c.loop-index.index _ c.loop-index.left
    c.is_state.result c.loop-index-test.true c.count-index-end.ensures c.is_state.ensures c.loop-index.invariant
    (search rules) c.if-left-eq0.true

pub loop-index-preserved : goal.loop-index-preserved
loop-index-preserved c =
    one_less c.args.test.now c.args.outcomes.now.listed c.args.state c.loop-index.index _ c.loop-index.left
    c.is_state.result c.loop-index-test.true c.count-index-end.ensures c.is_state.ensures c.loop-index.invariant
    (search rules) (c.loop-index.left - 1) (omega (arith, c.if-left-eq0.false))

pub returns-clause-none : goal.returns-clause-none
returns-clause-none c =
    let over : length c.args.outcomes.now.listed ≤ c.loop-index.index =
    omega (arith, c.loop-index-test.false, c.count-index-end.ensures) in
    lacks c.args.test.now c.args.outcomes.now.listed c.args.state c.loop-index.index c.loop-index.left over
    c.loop-index.invariant
