use Rattle.std.proofs.Common.{rules}
use Rattle.core_commands.proofs.check.follow_all.Goals as goal

pub returns-in-Err-Event-clause-refused : goal.returns-in-Err-Event-clause-refused
returns-in-Err-Event-clause-refused c = search rules

pub returns-in-Err-BadConfig-clause-refused : goal.returns-in-Err-BadConfig-clause-refused
returns-in-Err-BadConfig-clause-refused c = search rules

pub returns-in-Err-Memory-clause-refused : goal.returns-in-Err-Memory-clause-refused
returns-in-Err-Memory-clause-refused c = search rules
