use Rattle.std.proofs.Common.{◌∙◌, ap}
use Rattle.issue_queue.specs.Queue.{Queue, has_number}
use Rattle.issue_queue.proofs.Finding.{holds_by}
use Rattle.issue_queue.proofs.slab_queue.SlabQueue.holds.Goals as goal

pub returns : goal.returns
returns c =
    c.is_some.ensures
    ∙ holds_by c.self.inside.parts.entries c.self.invariant.sound.apart c.args.seq c.key_of.result c.key_of.ensures.some
    c.key_of.ensures.none
    ∙ ap (λ (q : Queue). has_number c.args.seq q.entries) c.self.view_is
