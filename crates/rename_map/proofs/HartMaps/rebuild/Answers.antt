use Rattle.std.proofs.Common.{rules}
use Rattle.rename_map.proofs.HartMaps.rebuild.Goals as goal

pub loop-register-init : goal.loop-register-init
loop-register-init c = search rules
