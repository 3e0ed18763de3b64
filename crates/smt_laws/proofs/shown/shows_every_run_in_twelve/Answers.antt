use Rattle.smt_laws.proofs.Showing.InTwelve.{each_run_is_shown_in_twelve}
use Rattle.smt_laws.proofs.shown.shows_every_run_in_twelve.Goals as goal

pub returns : goal.returns
returns c = record { runs = each_run_is_shown_in_twelve }
