use Rattle.std.proofs.Common.{◌+◌, slice_index, ◌∙◌, sym, ap}
use Rattle.issue_queue.specs.Waiting.{nodes}
use Rattle.issue_queue.proofs.Following.{first-there, first-absent}
use Rattle.issue_queue.proofs.waiting.WaitingLists.first.Goals as goal

pub returns-then-first-lt-NODES : goal.returns-then-first-lt-NODES
returns-then-first-lt-NODES c =
    λ waits linked.
    first-there (slice_index c.args.self.now.next) (slice_index c.args.self.now.before) waits c.args.register
    (linked c.args.register c.requires) c.from-first.result
    (sym (c.from-first.ensures ∙ ap (λ r. slice_index c.args.self.now.next (nodes + r)) c.from.ensures))
    c.if-first-lt-NODES.true

pub returns-else-first-lt-NODES : goal.returns-else-first-lt-NODES
returns-else-first-lt-NODES c =
    λ waits linked.
    first-absent (slice_index c.args.self.now.next) (slice_index c.args.self.now.before) waits c.args.register
    (linked c.args.register c.requires) c.from-first.result
    (sym (c.from-first.ensures ∙ ap (λ r. slice_index c.args.self.now.next (nodes + r)) c.from.ensures))
    c.if-first-lt-NODES.false
