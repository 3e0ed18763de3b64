use Rattle.std.proofs.Common.{arith}
use Rattle.core_lock.proofs.board.Board.park.Goals as goal

pub park_timeout-requires : goal.park_timeout-requires
park_timeout-requires g c = omega (arith, c.args.self.now.sized)
