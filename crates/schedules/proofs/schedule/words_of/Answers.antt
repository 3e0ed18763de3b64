use Rattle.std.proofs.Common.{rules}
use Rattle.schedules.proofs.schedule.words_of.Goals as goal

pub returns : goal.returns
returns c = search rules
