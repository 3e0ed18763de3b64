use Rattle.std.proofs.Common.{rules}
use Rattle.free_list.proofs.FreeList.take.Goals as goal

pub returns-clause-least : goal.returns-clause-least
returns-clause-least c = search rules

pub returns-clause-taken : goal.returns-clause-taken
returns-clause-taken c = search rules
