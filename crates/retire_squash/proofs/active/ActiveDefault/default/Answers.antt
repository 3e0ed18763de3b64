use Rattle.std.proofs.Common.{rules}
use Rattle.retire_squash.proofs.active.ActiveDefault.default.Goals as goal

pub returns : goal.returns
returns c = search rules
