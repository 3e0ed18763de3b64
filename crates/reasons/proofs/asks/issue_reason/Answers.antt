use Rattle.smt_model.specs.Asks.{AskIssue}
use Rattle.reasons.proofs.Named.{is_reason}
use Rattle.reasons.proofs.asks.issue_reason.Goals as goal

pub returns : goal.returns
returns c =
    is_reason c.args.core.now c.history.ensures.legal (AskIssue c.args.actor)
    (c.is_full.ensures.room c.if-is_full.false) _ c.no_issue.ensures
