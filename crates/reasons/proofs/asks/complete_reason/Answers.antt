use Rattle.smt_model.specs.Asks.{AskComplete}
use Rattle.reasons.proofs.Named.{is_reason}
use Rattle.reasons.proofs.asks.complete_reason.Goals as goal

pub returns : goal.returns
returns c =
    is_reason c.args.core.now c.history.ensures.legal (AskComplete c.args.actor)
    (c.is_full.ensures.room c.if-is_full.false) _ c.no_completion.ensures
