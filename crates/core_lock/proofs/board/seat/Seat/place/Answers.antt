use Rattle.std.proofs.Common.{rules}
use Rattle.core_lock.proofs.board.seat.Seat.place.Goals as goal

pub returns-clause-place : goal.returns-clause-place
returns-clause-place c = search rules
