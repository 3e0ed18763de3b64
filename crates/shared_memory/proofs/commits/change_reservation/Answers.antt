use Rattle.std.proofs.Common.{rules}
use Rattle.shared_memory.proofs.commits.change_reservation.Goals as goal

pub returns-in-Computing : goal.returns-in-Computing
returns-in-Computing c = search rules

pub returns-in-Conditional-clause-bytes : goal.returns-in-Conditional-clause-bytes
returns-in-Conditional-clause-bytes c = search rules

pub returns-in-Conditional-clause-image : goal.returns-in-Conditional-clause-image
returns-in-Conditional-clause-image c = search rules

pub returns-in-Conditional-clause-reserved : goal.returns-in-Conditional-clause-reserved
returns-in-Conditional-clause-reserved c = search rules

pub returns-in-Reserving-clause-bytes : goal.returns-in-Reserving-clause-bytes
returns-in-Reserving-clause-bytes c = search rules

pub returns-in-Reserving-clause-image : goal.returns-in-Reserving-clause-image
returns-in-Reserving-clause-image c = search rules

pub returns-in-Reserving-clause-reserved : goal.returns-in-Reserving-clause-reserved
returns-in-Reserving-clause-reserved c = search rules
