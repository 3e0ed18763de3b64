use Rattle.std.proofs.Common.{◌∙◌}
use Rattle.prompts.proofs.Asking.{all_asked, made_as, same_setup}
use Rattle.prompts.proofs.simulation.Simulation.ask_all.Goals as goal

pub returns-in-Ok-clause-asked : goal.returns-in-Ok-clause-asked
returns-in-Ok-clause-asked g c =
    let asked = c.ask.ensures in
    all_asked g.P.Predict.predicts (λ a. a.core) (λ a. a.idle) (λ a. a.text.items) c.ask.result c.args.self.now.predict _ _ _ _ _
    (c.as_slice.ensures.value ∙ c.in-Ok.ensures)
    (made_as _ _ _ _ c.in_ok-core.ensures.made
    (same_setup _ _ _ c.copied.ensures.sizes c.copied.ensures.roles))
    asked.setup asked.limit asked.shown asked.asked asked.guessed
