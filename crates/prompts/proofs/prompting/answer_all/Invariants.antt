use Rattle.core_state.specs.Setup.{setup_of}
use Rattle.text_fields.specs.Printing.{Prints}
use Rattle.prompts.specs.{Kept.Stands, Session.IsSession, Session.standing_of}
use Rattle.prompts.proofs.Turns.{AreSoFar}
use Rattle.prompts.proofs.prompting.answer_all.Given as goal

-- lines have come so far and were answered, and the core was asked those that are kept
abbrev pub invariant-loop-turn : goal.invariant-loop-turn
invariant-loop-turn g l = record {
  so_far : Prints (g.W.Write.contents l.fn.out) (g.W.Write.contents l.out)
      (AreSoFar (Stands g.P.Predict.predicts l.simulation.predict
      (setup_of l.simulation.image.now l.simulation.config.now) l.simulation.limit) l.why
      (g.R.Read.remaining l.fn.reader) (g.R.Read.remaining l.reader) (standing_of l.session));
  is_session : IsSession g.P.Predict.predicts l.simulation.predict
      (setup_of l.simulation.image.now l.simulation.config.now) l.simulation.limit l.session;
}
