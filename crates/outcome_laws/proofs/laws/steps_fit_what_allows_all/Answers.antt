use Rattle.outcome_laws.proofs.Fitting.{live_alone_is_tables, every_step_fits}
use Rattle.outcome_laws.proofs.Fitting.{fits_by_its_target, silent_steps_are_local}
use Rattle.outcome_laws.proofs.laws.steps_fit_what_allows_all.Goals as goal

pub returns-clause-tables : goal.returns-clause-tables
returns-clause-tables c = live_alone_is_tables

pub returns-clause-fits : goal.returns-clause-fits
returns-clause-fits c = every_step_fits

pub returns-clause-target : goal.returns-clause-target
returns-clause-target c = fits_by_its_target

pub returns-clause-silent : goal.returns-clause-silent
returns-clause-silent c = silent_steps_are_local
