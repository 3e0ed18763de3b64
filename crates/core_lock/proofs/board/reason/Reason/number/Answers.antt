use Rattle.std.proofs.Common.{rules}
use Rattle.core_lock.proofs.board.reason.Reason.number.Goals as goal

pub returns-in-Asked-clause-number : goal.returns-in-Asked-clause-number
returns-in-Asked-clause-number c = search rules

pub returns-in-Ended-clause-number : goal.returns-in-Ended-clause-number
returns-in-Ended-clause-number c = search rules

pub returns-in-Full-clause-number : goal.returns-in-Full-clause-number
returns-in-Full-clause-number c = search rules

pub returns-in-Turns-clause-number : goal.returns-in-Turns-clause-number
returns-in-Turns-clause-number c = search rules
