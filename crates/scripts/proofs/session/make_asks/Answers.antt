use Rattle.scripts.proofs.Sessions.{words_step}
use Rattle.scripts.proofs.session.make_asks.Goals as goal

pub loop-word-preserved : goal.loop-word-preserved
loop-word-preserved g c =
    words_step g.P.Predict.predicts _ _ _ _ _ _ _ _ _ _ _ _ _ _ _ c.loop-word-test.true c.loop-word.invariant
    c.in_ok-repeat_action.ensures
