use Rattle.std.proofs.Common.{rules}
use Rattle.smt_core.proofs.calls.Core.free_registers.Goals as goal

pub returns-clause-free : goal.returns-clause-free
returns-clause-free c = search rules

pub returns-clause-once : goal.returns-clause-once
returns-clause-once c = search rules
