use Rattle.smt_laws.proofs.Showing.InTwelve.{turns_show_runs}
use Rattle.smt_laws.proofs.shown.turns_show_runs.Goals as goal

pub returns : goal.returns
returns c = record { turns = turns_show_runs }
