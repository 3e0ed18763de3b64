use Rattle.issue_queue.specs.Queue.{stays}
use Rattle.issue_queue.proofs.{Rising.same_entries, Slots.listed, Slots.listed-kept, Finding.queue_kept, Finding.fits_filtered}
use Rattle.issue_queue.proofs.slab_queue.SlabQueue.squash.Goals as goal

pub squash-requires : goal.squash-requires
squash-requires c = c.self.invariant.sound

pub invariant_of-self : goal.invariant_of-self
invariant_of-self c =
    let old = c.self.inside.parts in
    let new = c.squash.new.self in
    queue_kept c.self.inside.size old new c.self.invariant c.squash.ensures.sound c.squash.ensures.capacity
    (fits_filtered c.self.inside.size old new c.self.invariant (stays c.args.hart c.args.after)
    (listed-kept old.entries new.entries c.self.invariant.sound.apart c.squash.ensures.sound.apart
    (stays c.args.hart c.args.after) c.squash.ensures.kept))

pub returns : goal.returns
returns c =
    let old = c.self.inside.parts in
    let new = c.squash.new.self in
    rw (← c.self.view_is)
    (same_entries c.self.inside.size (listed new.entries) _
    (listed-kept old.entries new.entries c.self.invariant.sound.apart c.squash.ensures.sound.apart
    (stays c.args.hart c.args.after) c.squash.ensures.kept))
