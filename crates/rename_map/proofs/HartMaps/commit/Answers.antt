use Rattle.std.proofs.Common.{rules}
use Rattle.rename_map.proofs.HartMaps.commit.Goals as goal

pub returns-clause-before : goal.returns-clause-before
returns-clause-before c = search rules
