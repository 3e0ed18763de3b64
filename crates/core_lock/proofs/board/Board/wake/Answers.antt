use Rattle.std.proofs.Common.{arith}
use Rattle.core_lock.proofs.board.Board.wake.Goals as goal

pub wake_all-requires : goal.wake_all-requires
wake_all-requires c = omega (arith, c.args.self.now.sized)
