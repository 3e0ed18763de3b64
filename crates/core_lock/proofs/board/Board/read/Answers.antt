use Rattle.std.proofs.Common.{rules}
use Rattle.core_lock.proofs.board.Board.read.Goals as goal

pub returns-clause-own : goal.returns-clause-own
returns-clause-own c = search rules

pub returns-clause-reason : goal.returns-clause-reason
returns-clause-reason c = search rules

pub returns-clause-rises : goal.returns-clause-rises
returns-clause-rises c = search rules

pub returns-clause-stop : goal.returns-clause-stop
returns-clause-stop c = search rules
