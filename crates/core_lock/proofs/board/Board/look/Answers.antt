use Rattle.std.proofs.Common.{arith}
use Rattle.core_lock.proofs.BoardRule.Stepping.{looks}
use Rattle.core_lock.proofs.board.Board.look.Goals as goal

pub load-requires : goal.load-requires
load-requires c = (
  c.requires.board,
  omega (arith, c.args.self.now.sized, c.requires.inside),
  looks _ c.args.seat.now.token.id c.args.seat.now.token.me c.args.word c.requires.inside,
)
