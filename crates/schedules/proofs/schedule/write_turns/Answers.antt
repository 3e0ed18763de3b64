use Rattle.schedules.proofs.Writing.{turns_step}
use Rattle.schedules.proofs.schedule.write_turns.Goals as goal

pub loop-turn-preserved : goal.loop-turn-preserved
loop-turn-preserved g c =
    turns_step _ _ _ c.args.units c.args.turns.now c.loop-turn.turn-index _
    c.loop-turn-test.true c.loop-turn.invariant c.in_ok-write_turn.ensures
