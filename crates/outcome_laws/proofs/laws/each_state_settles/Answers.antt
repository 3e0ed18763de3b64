use Rattle.outcome_laws.proofs.Settling.{each_settles}
use Rattle.outcome_laws.proofs.laws.each_state_settles.Goals as goal

pub returns : goal.returns
returns c = record { settles = each_settles }
