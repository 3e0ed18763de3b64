use Rattle.outcome_laws.proofs.{Local.fits_on_its_own, Staying.local_steps_commute}
use Rattle.outcome_laws.proofs.laws.local_steps_commute.Goals as goal

pub returns-clause-own : goal.returns-clause-own
returns-clause-own c = fits_on_its_own

pub returns-clause-commute : goal.returns-clause-commute
returns-clause-commute c = local_steps_commute
