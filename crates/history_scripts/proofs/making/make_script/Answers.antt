use Rattle.core_state.specs.Setup.{setup_of}
use Rattle.history_scripts.proofs.Worded.{script_of}
use Rattle.history_scripts.proofs.making.make_script.Goals as goal

pub returns-clause-made : goal.returns-clause-made
returns-clause-made g c =
    script_of g.P.Predict.predicts (setup_of c.args.image.now c.args.config.now) c.args.events.now c.in-Ok.harts.items
    c.in_default.ensures.history c.in-Ok.ensures c.in_default-judge_all.ensures.guessed
    c.lines_are_scripts.ensures.lines c.scripts_make_again.ensures.again
