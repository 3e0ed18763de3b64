use Rattle.outcome_text.proofs.Appending.{all_so_far, fails_at}
use Rattle.outcome_text.proofs.answers.holds_of_all.Goals as goal

pub returns-then-not-holds_at : goal.returns-then-not-holds_at
returns-then-not-holds_at c =
    fails_at _ c.args.outcomes.now.listed c.loop-index.index _ c.holds_at.result c.loop-index-test.true
    c.count-index-end.ensures c.holds_at.ensures c.if-not-holds_at.true

pub loop-index-preserved : goal.loop-index-preserved
loop-index-preserved c =
    all_so_far _ c.args.outcomes.now.listed c.loop-index.index _ c.holds_at.result c.loop-index-test.true
    c.count-index-end.ensures c.holds_at.ensures c.if-not-holds_at.false c.loop-index.invariant
