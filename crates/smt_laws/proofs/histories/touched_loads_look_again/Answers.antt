use Rattle.smt_laws.proofs.Touching.{shares_where_one_is, completions_untouched, looks_of_loads}
use Rattle.smt_laws.proofs.histories.touched_loads_look_again.Goals as goal

pub returns-clause-shares : goal.returns-clause-shares
returns-clause-shares c = shares_where_one_is

pub returns-clause-fresh : goal.returns-clause-fresh
returns-clause-fresh c = completions_untouched

pub returns-clause-least : goal.returns-clause-least
returns-clause-least c = looks_of_loads
