use Rattle.std.proofs.Common.{rules}
use Rattle.rename_map.proofs.HartMaps.new.Goals as goal

pub loop-register-preserved : goal.loop-register-preserved
loop-register-preserved c = search rules
