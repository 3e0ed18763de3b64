use Rattle.schedules.proofs.Retired.{retired}
use Rattle.schedules.proofs.retiring.schedules_are_retired.Goals as goal

pub returns : goal.returns
returns g c = record {
  retired =
      retired g.P.Predict.predicts c.replies_to_its_script.ensures.fills c.scripts_are_unambiguous.ensures.one;
}
