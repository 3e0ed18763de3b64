use Rattle.std.proofs.Common.{rules}
use Rattle.core_parts.proofs.squash.map_again.Goals as goal

pub returns-clause-speculative : goal.returns-clause-speculative
returns-clause-speculative c = search rules
