use Rattle.smt_laws.proofs.Showing.Units.{needs_its_units}
use Rattle.smt_laws.proofs.shown.needs_its_units.Goals as goal

pub returns : goal.returns
returns c = record { needs = needs_its_units }
