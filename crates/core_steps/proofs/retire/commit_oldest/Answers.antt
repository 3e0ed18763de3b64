use Rattle.std.proofs.Common.{rules}
use Rattle.core_steps.proofs.retire.commit_oldest.Goals as goal

pub returns : goal.returns
returns c = search rules
