use Rattle.std.proofs.Common.{ap, ◌∙◌}
use Rattle.issue_queue.specs.Queue.{first_ready}
use Rattle.issue_queue.proofs.Rising.{IsOldest-answered}
use Rattle.issue_queue.proofs.plain.PlainQueue.oldest_entry.Goals as goal

pub returns-clause-oldest : goal.returns-clause-oldest
returns-clause-oldest c =
    rw (← c.self.view_is)
    (IsOldest-answered c.args.kind c.self.inside.entries.items c.first_ready.result c.self.invariant.2
    (c.first_ready.ensures ∙ ap (first_ready c.args.kind) c.as_slice.ensures.value))
