use Rattle.std.proofs.Common.{◌≡◌, ◌∙◌, filter, sym, ap, subst}
use Rattle.issue_queue.specs.{Queue.is_other, declared.entry.Entry.Entry}
use Rattle.issue_queue.proofs.Rising.{same_entries, without_none}
use Rattle.issue_queue.proofs.Slots.{listed, listed-gone, some_same}
use Rattle.issue_queue.proofs.Finding.{has-none, queue_kept, fits_filtered}
use Rattle.issue_queue.proofs.slab_queue.SlabQueue.remove.Goals.{After-remove}
use Rattle.issue_queue.proofs.slab_queue.SlabQueue.remove.Goals as goal

-- the one of this number alone is gone
is_gone : (c : After-remove) → listed c.remove.new.self.entries
    ≡ filter (is_other c.args.seq) (listed c.self.inside.parts.entries)
is_gone c =
    let it = c.in-Some.ensures.some in
    let same : c.remove.result ≡ it.entry =
    some_same c.remove.result it.entry (sym c.remove.ensures.entry ∙ it.there) in
    subst (λ n. listed c.remove.new.self.entries ≡ filter (is_other n) (listed c.self.inside.parts.entries))
    (ap (λ (e : Entry). e.seq) same ∙ it.number)
    (listed-gone c.self.inside.parts.entries c.remove.new.self.entries c.self.invariant.sound.apart
    c.remove.ensures.sound.apart c.in-Some.key c.remove.result c.remove.ensures.entry c.remove.ensures.gone)

pub invariant_of-self : goal.invariant_of-self
invariant_of-self c =
    queue_kept c.self.inside.size c.self.inside.parts c.remove.new.self c.self.invariant c.remove.ensures.sound
    c.remove.ensures.capacity
    (fits_filtered c.self.inside.size c.self.inside.parts c.remove.new.self c.self.invariant (is_other c.args.seq)
    (is_gone (goal.at.invariant_of-self c).After-remove))

pub returns-in-Some : goal.returns-in-Some
returns-in-Some c =
    rw (← c.self.view_is)
    (same_entries c.self.inside.size (listed c.remove.new.self.entries) _
    (is_gone (goal.at.returns-in-Some c).After-remove))

pub returns-in_default : goal.returns-in_default
returns-in_default c =
    rw (← c.self.view_is)
    (same_entries c.self.inside.size (listed c.self.inside.parts.entries) _
    (sym (without_none c.args.seq (listed c.self.inside.parts.entries)
    (has-none c.self.inside.parts.entries c.self.invariant.sound.apart c.args.seq c.in_default.ensures.none))))
