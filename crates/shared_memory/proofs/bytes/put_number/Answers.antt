use Rattle.std.proofs.Common.{rules}
use Rattle.shared_memory.proofs.bytes.put_number.Goals as goal

pub loop-index-preserved : goal.loop-index-preserved
loop-index-preserved c = search rules

pub returns-clause-bytes : goal.returns-clause-bytes
returns-clause-bytes c = search rules
