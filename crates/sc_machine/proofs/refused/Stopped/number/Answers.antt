use Rattle.std.proofs.Common.{rules}
use Rattle.sc_machine.proofs.refused.Stopped.number.Goals as goal

pub returns-in-NoHart : goal.returns-in-NoHart
returns-in-NoHart c = search rules

pub returns-in-NotGoing : goal.returns-in-NotGoing
returns-in-NotGoing c = search rules

pub returns-in-OutputFull : goal.returns-in-OutputFull
returns-in-OutputFull c = search rules
