use Rattle.std.proofs.Common.{rules}
use Rattle.core_parts.proofs.hart.HartState.squash.Goals as goal

pub returns-clause-squash_behind : goal.returns-clause-squash_behind
returns-clause-squash_behind c = search rules
