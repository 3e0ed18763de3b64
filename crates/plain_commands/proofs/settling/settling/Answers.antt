use Rattle.plain_commands.proofs.FirstSettling.{all_seen, found_at, found_nowhere, not_so_far}
use Rattle.plain_commands.proofs.settling.settling.Goals as goal

pub returns-then-settles_at : goal.returns-then-settles_at
returns-then-settles_at c =
    found_at _ c.args.outcomes.now.listed c.loop-index.index _ c.settles_at.result c.loop-index-test.true
    c.count-index-end.ensures c.settles_at.ensures c.if-settles_at.true c.loop-index.invariant

pub loop-index-preserved : goal.loop-index-preserved
loop-index-preserved c =
    not_so_far _ c.args.outcomes.now.listed c.loop-index.index _ c.settles_at.result c.loop-index-test.true
    c.count-index-end.ensures c.settles_at.ensures c.if-settles_at.false c.loop-index.invariant

pub returns : goal.returns
returns c =
    found_nowhere _ c.args.outcomes.now.listed (all_seen _ c.args.outcomes.now.listed c.loop-index.index
    c.count-index-end.result c.count-index-end.ensures c.loop-index-test.false c.loop-index.invariant)
