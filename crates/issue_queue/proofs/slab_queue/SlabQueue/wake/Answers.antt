use Rattle.issue_queue.specs.Entry.{woken_entry}
use Rattle.issue_queue.proofs.{Rising.same_entries, Slots.listed, Slots.listed-woken, Finding.queue_kept, Finding.fits_mapped}
use Rattle.issue_queue.proofs.slab_queue.SlabQueue.wake.Goals as goal

pub wake-requires : goal.wake-requires
wake-requires c = c.self.invariant.sound

pub invariant_of-self : goal.invariant_of-self
invariant_of-self c =
    let old = c.self.inside.parts in
    let new = c.wake.new.self in
    queue_kept c.self.inside.size old new c.self.invariant c.wake.ensures.sound c.wake.ensures.capacity
    (fits_mapped c.self.inside.size old new c.self.invariant (woken_entry c.args.register c.args.value)
    (listed-woken old.entries new.entries c.self.invariant.sound.apart c.wake.ensures.sound.apart c.args.register
    c.args.value c.wake.ensures.woken))

pub returns : goal.returns
returns c =
    let old = c.self.inside.parts in
    let new = c.wake.new.self in
    rw (← c.self.view_is)
    (same_entries c.self.inside.size (listed new.entries) _
    (listed-woken old.entries new.entries c.self.invariant.sound.apart c.wake.ensures.sound.apart c.args.register
    c.args.value c.wake.ensures.woken))
