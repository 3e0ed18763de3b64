use Rattle.history_scripts.proofs.Repeating.{again}
use Rattle.history_scripts.proofs.laws.scripts_make_again.Goals as goal

pub returns : goal.returns
returns g c = record {
  again =
      again g.P.Predict.predicts c.asks_have_one_answer.ensures.one c.scripts_are_unambiguous.ensures.one;
}
