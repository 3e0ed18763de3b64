use Rattle.actors.proofs.static_predictor.StaticPredictorPredict.predict.Goals as goal

pub returns : goal.returns
returns c = rw (← c.decode.ensures.value) c.guess.ensures
