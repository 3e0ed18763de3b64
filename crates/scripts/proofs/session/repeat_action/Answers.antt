use Rattle.scripts.proofs.Sessions.{held_behind, repeat_step}
use Rattle.scripts.proofs.session.repeat_action.Goals as goal

pub loop-turn-preserved : goal.loop-turn-preserved
loop-turn-preserved g c =
    repeat_step g.P.Predict.predicts _ _ _ _ _ _ _ _ _ _ _ _ _ _ c.loop-turn.invariant
    (held_behind g.P.Predict.predicts _ _ _ _ _ _ _ _ _ c.in_ok-make_room.ensures.kept c.act.ensures)
