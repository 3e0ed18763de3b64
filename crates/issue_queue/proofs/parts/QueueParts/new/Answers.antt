use Rattle.std.proofs.Common.{◌∙◌, ap, arith, sym, subst}
use Rattle.slab.specs.Slab.{Slab}
use Rattle.issue_queue.specs.{declared.entry.Entry.Entry, Parts.IsSound}
use Rattle.issue_queue.proofs.Waking.{empty_sound}
use Rattle.issue_queue.proofs.parts.QueueParts.new.Goals as goal

pub returns-clause-sound : goal.returns-clause-sound
returns-clause-sound c =
    let sound =
    empty_sound (record { entries = c.reserve.new.self; waiting = c.new.result; ready = c.in_ok-new.field-0 })
    (ap (λ (s : Slab Entry). s.slots) c.reserve.ensures.rest_kept ∙ c.new-entries.ensures.empty)
    (omega (arith, c.if-capacity-gt-MOST_QUEUED.false, c.capacity.ensures.value)) c.new.ensures c.in_ok-new.ensures in
    subst (λ s. IsSound (record { entries = s; waiting = c.new.result; ready = c.in_ok-new.field-0 }))
    (sym c.entries.view_is) sound
