use Rattle.smt_laws.proofs.Stated.{values_same}
use Rattle.smt_laws.proofs.histories.values_stay.Goals as goal

pub returns : goal.returns
returns c = record { same = values_same }
