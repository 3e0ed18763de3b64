use Rattle.std.proofs.Common.{sym, subst}
use Rattle.sc_machine.specs.Machine.{Agrees}
use Rattle.stuck_harts.proofs.Turning.{one_turn, turns_none}
use Rattle.stuck_harts.proofs.turns.take_turns.Goals as goal

pub loop-turn-init : goal.loop-turn-init
loop-turn-init c = λ setup s agrees.
    subst (λ s. Agrees setup s c.args.machine.now) (sym (turns_none setup s)) agrees

pub loop-turn-preserved : goal.loop-turn-preserved
loop-turn-preserved c =
    one_turn c.loop-turn.turn c.harts-harts.result c.args.machine.now c.loop-turn.machine c.go_up_to.new.machine
    c.loop-turn.invariant c.harts-harts.ensures.value c.in_ok-go_up_to.ensures
