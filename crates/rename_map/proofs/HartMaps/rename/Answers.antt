use Rattle.std.proofs.Common.{rules}
use Rattle.rename_map.proofs.HartMaps.rename.Goals as goal

pub returns-clause-renamed : goal.returns-clause-renamed
returns-clause-renamed c = search rules

pub returns-clause-committed : goal.returns-clause-committed
returns-clause-committed c = search rules
