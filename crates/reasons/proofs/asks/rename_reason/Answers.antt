use Rattle.smt_model.specs.Asks.{AskRename}
use Rattle.reasons.proofs.Named.{is_reason}
use Rattle.reasons.proofs.asks.rename_reason.Goals as goal

pub returns : goal.returns
returns c =
    is_reason c.args.core.now c.history.ensures.legal (AskRename c.args.actor c.args.hart)
    (c.is_full.ensures.room c.if-is_full.false) _ c.no_rename.ensures
