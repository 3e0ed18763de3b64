use Rattle.stuck_harts.proofs.Watching.{none_watched, one_watched}
use Rattle.stuck_harts.proofs.spins.spins_of.Goals as goal

pub loop-turn-init : goal.loop-turn-init
loop-turn-init c = λ setup s agrees inside.
    none_watched setup s c.args.hart c.new-shown.result.items c.take_turns.new.machine c.new-shown.ensures
    (c.in_ok-take_turns.ensures setup s agrees)

pub loop-turn-preserved : goal.loop-turn-preserved
loop-turn-preserved c = λ setup s agrees inside.
    one_watched setup s c.args.hart c.loop-turn.turn c.loop-turn.shown.items c.keep.new.past.items
    c.in_ok-spin.spin c.loop-turn.machine c.watch_turn.new.machine inside
    (c.loop-turn.invariant setup s agrees inside) c.in_ok-spin.ensures.shown c.in_ok-spin.ensures.turned
    c.keep.ensures
