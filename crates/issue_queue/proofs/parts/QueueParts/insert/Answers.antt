use Rattle.std.proofs.Common.{◌≡◌, ◌≢◌, ◌+◌, ◌<◌, ◌∙◌, None, Some, length, ap, arith}
use Rattle.numbers.specs.Sizes.{most_queued}
use Rattle.issue_queue.specs.Parts.{waits_of, waits_at}
use Rattle.issue_queue.specs.Waiting.{with_register}
use Rattle.issue_queue.proofs.Following.{with_other}
use Rattle.issue_queue.proofs.Agreeing.{added_sound, at_first, at_second}
use Rattle.issue_queue.proofs.Waking.{added_room}
use Rattle.issue_queue.proofs.parts.QueueParts.insert.Goals as goal

pub offer-requires-clause-room : goal.offer-requires-clause-room
offer-requires-clause-room c =
    let e = c.insert_reserved-key.ensures in
    added_room c.args.self.now c.requires.sound c.insert_reserved-key.result
    (omega (arith, e.key_in_range, e.capacity, c.requires.sound.capacity)) e.was_vacant

pub returns-clause-sound : goal.returns-clause-sound
returns-clause-sound c =
    let e = c.insert_reserved-key.ensures in
    let old = c.args.self.now in
    let key = c.insert_reserved-key.result in
    let inside : key < most_queued = omega (arith, e.key_in_range, e.capacity, c.requires.sound.capacity) in
    let two : length c.args.entry.sources ≡ 2 = omega arith in
    let first = waits_of 0 (Some c.args.entry) in
    let free : waits_at old.entries key ≡ None = at_first old.entries key inside ∙ ap (waits_of 0) e.was_vacant in
    let far : key + most_queued ≢ key = λ is. omega (arith, is) in
    let free2 : with_register (waits_at old.entries) key first (key + most_queued) ≡ None =
    with_other (waits_at old.entries) key first (key + most_queued) far ∙ at_second old.entries key
    ∙ ap (waits_of 1) e.was_vacant in
    added_sound old
    (record { entries = c.insert_reserved-key.new.self; waiting = c.enlist-2.new.waiting; ready = c.offer.new.ready })
    c.requires.sound e.capacity key c.args.entry e.was_vacant e.updates inside two c.requires.absent
    (c.enlist-2.ensures (with_register (waits_at old.entries) key first)
    (c.enlist.ensures (waits_at old.entries) c.requires.sound.waiting free) free2)
    c.offer.ensures
