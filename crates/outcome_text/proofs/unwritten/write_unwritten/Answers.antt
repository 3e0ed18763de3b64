use Rattle.outcome_text.proofs.Appending.{unwritten_step}
use Rattle.outcome_text.proofs.unwritten.write_unwritten.Goals as goal

pub loop-index-preserved : goal.loop-index-preserved
loop-index-preserved g c =
    unwritten_step c.args.outcomes.now.unwritten _ _ _ c.args.words.now c.loop-index.index c.is_unwritten.result _
    c.loop-index-test.true c.is_unwritten.ensures c.loop-index.invariant c.in_ok-write_if_unwritten.ensures
