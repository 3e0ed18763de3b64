use Rattle.smt_laws.proofs.Stated.{results_are}
use Rattle.smt_laws.proofs.histories.results_are_rules.Goals as goal

pub returns : goal.returns
returns c = record { says = results_are }
