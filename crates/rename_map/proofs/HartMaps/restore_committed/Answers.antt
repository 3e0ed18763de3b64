use Rattle.std.proofs.Common.{rules}
use Rattle.rename_map.proofs.HartMaps.restore_committed.Goals as goal

pub returns : goal.returns
returns c = search rules
