use Rattle.std.proofs.Common.{rules}
use Rattle.core_lock.proofs.board.Board.post.Goals as goal

pub returns-clause-asked : goal.returns-clause-asked
returns-clause-asked g c = search rules

pub returns-clause-board : goal.returns-clause-board
returns-clause-board g c = search rules

pub returns-clause-place : goal.returns-clause-place
returns-clause-place g c = search rules

pub returns-clause-posted : goal.returns-clause-posted
returns-clause-posted g c = search rules

pub returns-clause-rises : goal.returns-clause-rises
returns-clause-rises g c = search rules

pub returns-clause-seen : goal.returns-clause-seen
returns-clause-seen g c = search rules
