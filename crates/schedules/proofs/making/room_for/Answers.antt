use Rattle.std.proofs.Common.{rules}
use Rattle.schedules.proofs.making.room_for.Goals as goal

pub returns : goal.returns
returns c = search rules
