use Rattle.outcome_laws.proofs.{Paths.runs_are_paths, Holding.paths_keep_code}
use Rattle.outcome_laws.proofs.laws.runs_are_paths.Goals as goal

pub returns-clause-paths : goal.returns-clause-paths
returns-clause-paths c = runs_are_paths

pub returns-clause-code : goal.returns-clause-code
returns-clause-code c = paths_keep_code
