use Rattle.std.proofs.Common.{rules}
use Rattle.sc_machine.proofs.machine.Plain.lacks_room.Goals as goal

pub returns-else-is_some-clause-blocked : goal.returns-else-is_some-clause-blocked
returns-else-is_some-clause-blocked c = search rules

pub returns-else-is_some-clause-room : goal.returns-else-is_some-clause-room
returns-else-is_some-clause-room c = search rules

pub returns-then-is_some-clause-blocked : goal.returns-then-is_some-clause-blocked
returns-then-is_some-clause-blocked c = search rules

pub returns-then-is_some-clause-room : goal.returns-then-is_some-clause-room
returns-then-is_some-clause-room c = search rules
