use Rattle.std.proofs.Common.{rules}
use Rattle.core_lock.proofs.board.seat.Seat.posted.Goals as goal

pub returns : goal.returns
returns c = search rules
