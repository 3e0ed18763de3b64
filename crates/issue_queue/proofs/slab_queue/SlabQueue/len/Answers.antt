use Rattle.std.proofs.Common.{◌∙◌, arith, sym, ap, length}
use Rattle.issue_queue.specs.Queue.{Queue}
use Rattle.issue_queue.proofs.Slots.{length-slots}
use Rattle.issue_queue.proofs.slab_queue.SlabQueue.len.Goals as goal

pub returns-clause-value : goal.returns-clause-value
returns-clause-value c =
    c.len.ensures ∙ sym (length-slots c.self.inside.parts.entries.slots)
    ∙ ap (λ (q : Queue). length q.entries) c.self.view_is

pub returns-clause-bound : goal.returns-clause-bound
returns-clause-bound c =
    rw (← c.self.view_is)
    (omega (arith, c.len.ensures, length-slots c.self.inside.parts.entries.slots, c.self.invariant.fits))
