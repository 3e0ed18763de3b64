use Rattle.std.proofs.Common.{rules}
use Rattle.smt_core.proofs.calls.Core.follow.Goals as goal

pub returns : goal.returns
returns c = search rules

pub returns-in-Err : goal.returns-in-Err
returns-in-Err c = search rules

pub returns-then-is_full : goal.returns-then-is_full
returns-then-is_full c = search rules
