use Rattle.outcome_text.proofs.Appending.{found_at, not_so_far}
use Rattle.outcome_text.proofs.answers.holds_of_any.Goals as goal

pub returns-then-holds_at : goal.returns-then-holds_at
returns-then-holds_at c =
    found_at _ c.args.outcomes.now.listed c.loop-index.index _ c.holds_at.result c.loop-index-test.true
    c.count-index-end.ensures c.holds_at.ensures c.if-holds_at.true

pub loop-index-preserved : goal.loop-index-preserved
loop-index-preserved c =
    not_so_far _ c.args.outcomes.now.listed c.loop-index.index _ c.holds_at.result c.loop-index-test.true
    c.count-index-end.ensures c.holds_at.ensures c.if-holds_at.false c.loop-index.invariant
