use Rattle.std.proofs.Common.{arith}
use Rattle.stuck_harts.proofs.Turning.{one_hart}
use Rattle.stuck_harts.proofs.turns.go_up_to.Goals as goal

pub loop-hart-preserved : goal.loop-hart-preserved
loop-hart-preserved c = (
  one_hart c.args.from c.loop-hart.hart c.args.machine.now c.loop-hart.machine c.step_if_going.new.machine
      c.loop-hart.invariant.0 c.in_ok-step_if_going.ensures,
  λ some. omega arith,
)
