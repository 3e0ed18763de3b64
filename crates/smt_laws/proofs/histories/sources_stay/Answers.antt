use Rattle.smt_laws.proofs.Stated.{sources_same, sources_claimed}
use Rattle.smt_laws.proofs.histories.sources_stay.Goals as goal

pub returns-clause-same : goal.returns-clause-same
returns-clause-same c = sources_same

pub returns-clause-claimed : goal.returns-clause-claimed
returns-clause-claimed c = sources_claimed
