use Rattle.scripts.proofs.Sessions.{unit_both, unit_alone}
use Rattle.scripts.proofs.session.issue_and_hand_back.Goals as goal

pub returns-then-issue : goal.returns-then-issue
returns-then-issue g c =
    unit_both g.P.Predict.predicts c.args.actor _ _ _ _ _ _ _ _ _ _ _ _ c.issue.result c.if-issue.true
    c.issue.ensures.issued c.hand_back.ensures

pub returns-else-issue : goal.returns-else-issue
returns-else-issue g c =
    unit_alone g.P.Predict.predicts c.args.actor _ _ _ _ _ _ _ _ c.issue.result c.if-issue.false
    c.issue.ensures.issued
