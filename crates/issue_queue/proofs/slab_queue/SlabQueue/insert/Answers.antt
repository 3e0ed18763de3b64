use Rattle.issue_queue.proofs.{Rising.same_entries, Slots.listed, Slots.listed-added, Finding.no-number, Finding.has_room}
use Rattle.issue_queue.proofs.Finding.{queue_kept, fits_added}
use Rattle.issue_queue.proofs.slab_queue.SlabQueue.insert.Goals as goal

pub insert-requires-clause-sound : goal.insert-requires-clause-sound
insert-requires-clause-sound c = c.self.invariant.sound

pub insert-requires-clause-room : goal.insert-requires-clause-room
insert-requires-clause-room c =
    let short = rw (← c.self.view_is) at c.requires.room in
    has_room c.self.inside.size c.self.inside.parts c.self.inside.parts c.self.invariant short

pub insert-requires-clause-absent : goal.insert-requires-clause-absent
insert-requires-clause-absent c =
    let absent = rw (← c.self.view_is) at c.requires.absent in
    no-number c.self.inside.parts.entries c.self.invariant.sound.apart c.args.entry.seq absent

pub invariant_of-self : goal.invariant_of-self
invariant_of-self c =
    let old = c.self.inside.parts in
    let new = c.insert.new.self in
    let sound = c.self.invariant.sound in
    let short = rw (← c.self.view_is) at c.requires.room in
    let absent = rw (← c.self.view_is) at c.requires.absent in
    let none = no-number old.entries sound.apart c.args.entry.seq absent in
    let same = listed-added old.entries new.entries sound.apart c.insert.ensures.sound.apart c.args.entry c.insert.ensures.added none in
    queue_kept c.self.inside.size old new c.self.invariant c.insert.ensures.sound c.insert.ensures.capacity
    (fits_added c.self.inside.size old new c.self.invariant c.args.entry same short)

pub returns : goal.returns
returns c =
    let old = c.self.inside.parts in
    let new = c.insert.new.self in
    let sound = c.self.invariant.sound in
    let absent = rw (← c.self.view_is) at c.requires.absent in
    let none = no-number old.entries sound.apart c.args.entry.seq absent in
    rw (← c.self.view_is)
    (same_entries c.self.inside.size (listed new.entries) _
    (listed-added old.entries new.entries sound.apart c.insert.ensures.sound.apart c.args.entry c.insert.ensures.added none))
