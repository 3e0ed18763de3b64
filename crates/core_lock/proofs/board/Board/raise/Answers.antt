use Rattle.std.proofs.Common.{arith}
use Rattle.core_lock.proofs.BoardRule.Stepping.{stops}
use Rattle.core_lock.proofs.board.Board.raise.Goals as goal

pub fetch_max-requires : goal.fetch_max-requires
fetch_max-requires c = (
  c.requires.board,
  omega (arith, c.args.self.now.sized),
  stops _ c.args.seat.now.token.id c.args.seat.now.token.me c.args.number c.requires.most,
)
