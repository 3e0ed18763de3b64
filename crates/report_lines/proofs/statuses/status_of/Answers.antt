use Rattle.std.proofs.Common.{sym}
use Rattle.report_lines.proofs.statuses.status_of.Goals as goal

pub returns-then-is_one_going-clause-status : goal.returns-then-is_one_going-clause-status
returns-then-is_one_going-clause-status c = rw (sym c.if-is_one_going.ensures)
