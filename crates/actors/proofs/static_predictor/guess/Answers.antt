use Rattle.std.proofs.Common.{rules}
use Rattle.actors.proofs.static_predictor.guess.Goals as goal

pub returns-in-Some-Branch : goal.returns-in-Some-Branch
returns-in-Some-Branch c = search rules

pub returns-in_default : goal.returns-in_default
returns-in_default c = search rules
