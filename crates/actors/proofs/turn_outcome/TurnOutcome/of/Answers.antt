use Rattle.std.proofs.Common.{rules}
use Rattle.actors.proofs.turn_outcome.TurnOutcome.of.Goals as goal

pub returns-in-Event : goal.returns-in-Event
returns-in-Event c = search rules

pub returns-in-Event-2 : goal.returns-in-Event-2
returns-in-Event-2 c = search rules

pub returns-in-Full : goal.returns-in-Full
returns-in-Full c = search rules

pub returns-in-Idle : goal.returns-in-Idle
returns-in-Idle c = search rules

pub returns-in-Idle-2 : goal.returns-in-Idle-2
returns-in-Idle-2 c = search rules

pub returns-then-going-eq0 : goal.returns-then-going-eq0
returns-then-going-eq0 c = search rules
