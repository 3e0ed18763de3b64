use Rattle.smt_laws.proofs.Showing.EachRun.{scripts_show_runs}
use Rattle.smt_laws.proofs.shown.scripts_show_runs.Goals as goal

pub returns : goal.returns
returns c = record { scripts = scripts_show_runs }
