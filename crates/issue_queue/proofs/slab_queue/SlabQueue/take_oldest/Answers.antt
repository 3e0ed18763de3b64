use Rattle.std.proofs.Common.{◌≡◌, ◌∙◌, Some, filter, sym, ap}
use Rattle.issue_queue.specs.Queue.{Queue, first_ready, is_other}
use Rattle.issue_queue.proofs.Rising.{IsOldest-first_ready, same_entries}
use Rattle.issue_queue.proofs.Slots.{listed, rising, listed-gone}
use Rattle.issue_queue.proofs.Finding.{first-oldest, first-none, queue_kept, fits_filtered}
use Rattle.issue_queue.proofs.slab_queue.SlabQueue.take_oldest.Goals.{After-remove}
use Rattle.issue_queue.proofs.slab_queue.SlabQueue.take_oldest.Goals as goal

-- the one that is taken is the first that is ready, and it alone is gone
is_first : (c : After-remove) → Some c.remove.result ≡ first_ready c.args.kind (listed c.self.inside.parts.entries)
is_first c =
    let it = c.in-Some.ensures.some in
    sym c.remove.ensures.entry ∙ it.there
    ∙ sym (first-oldest c.self.inside.parts.entries c.self.invariant.sound.apart c.args.kind c.in-Some.key it)

is_gone : (c : After-remove) → listed c.remove.new.self.entries
    ≡ filter (is_other c.remove.result.seq) (listed c.self.inside.parts.entries)
is_gone c =
    listed-gone c.self.inside.parts.entries c.remove.new.self.entries c.self.invariant.sound.apart
    c.remove.ensures.sound.apart c.in-Some.key c.remove.result c.remove.ensures.entry c.remove.ensures.gone

pub invariant_of-self : goal.invariant_of-self
invariant_of-self c =
    queue_kept c.self.inside.size c.self.inside.parts c.remove.new.self c.self.invariant c.remove.ensures.sound
    c.remove.ensures.capacity
    (fits_filtered c.self.inside.size c.self.inside.parts c.remove.new.self c.self.invariant
    (is_other c.remove.result.seq) (is_gone (goal.at.invariant_of-self c).After-remove))

pub returns-in-Some-clause-value : goal.returns-in-Some-clause-value
returns-in-Some-clause-value c =
    is_first (goal.at.returns-in-Some-clause-value c).After-remove
    ∙ ap (λ (q : Queue). first_ready c.args.kind q.entries) c.self.view_is

pub returns-in-Some-clause-oldest : goal.returns-in-Some-clause-oldest
returns-in-Some-clause-oldest c =
    rw (← c.self.view_is)
    (IsOldest-first_ready c.args.kind c.remove.result (listed c.self.inside.parts.entries)
    (rising c.self.inside.parts.entries c.self.invariant.sound.apart)
    (sym (is_first (goal.at.returns-in-Some-clause-oldest c).After-remove)))

pub returns-in-Some-clause-taken : goal.returns-in-Some-clause-taken
returns-in-Some-clause-taken c =
    rw (← c.self.view_is)
    (same_entries c.self.inside.size (listed c.remove.new.self.entries) _
    (is_gone (goal.at.returns-in-Some-clause-taken c).After-remove))

pub returns-in-None-clause-value : goal.returns-in-None-clause-value
returns-in-None-clause-value c =
    sym (first-none c.self.inside.parts.entries c.self.invariant.sound.apart c.args.kind c.in-None.ensures.none)
    ∙ ap (λ (q : Queue). first_ready c.args.kind q.entries) c.self.view_is
