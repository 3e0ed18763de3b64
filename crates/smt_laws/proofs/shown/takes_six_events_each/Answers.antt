use Rattle.smt_laws.proofs.Showing.Costs.{takes_six_each}
use Rattle.smt_laws.proofs.shown.takes_six_events_each.Goals as goal

pub returns : goal.returns
returns c = record { least = takes_six_each }
