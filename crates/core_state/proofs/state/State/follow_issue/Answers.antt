-- No other instruction than the one that the actor issues next may come.
use Rattle.core_state.proofs.Following.Issue.{another_is_refused}
use Rattle.core_state.proofs.state.State.follow_issue.Goals as goal

pub issue_rule-requires-then-entry-seq : goal.issue_rule-requires-then-entry-seq
issue_rule-requires-then-entry-seq c =
    another_is_refused c.args.self.now.setup c.args.self.now.past c.args.actor c.in-Some.entry.seq c.args.seq
    c.in-Some.ensures.alone c.if-entry-seq.true
