use Rattle.std.proofs.Common.{arith, ap, length}
use Rattle.issue_queue.specs.Queue.{inserted_entry}
use Rattle.issue_queue.proofs.{Rising.IsRising-inserted, Rising.same_entries, Slots.length-inserted}
use Rattle.issue_queue.proofs.plain.PlainQueue.insert.Goals as goal

pub place-requires-clause-room : goal.place-requires-clause-room
place-requires-clause-room c =
    let room = rw (← c.self.view_is) at c.requires.room in
    omega (arith, room, c.self.invariant.0)

pub invariant_of-self : goal.invariant_of-self
invariant_of-self c =
    let room = rw (← c.self.view_is) at c.requires.room in
    let absent = rw (← c.self.view_is) at c.requires.absent in (
      c.self.invariant.0,
      omega (arith, room, ap length c.place.ensures, length-inserted c.args.entry c.self.inside.entries.items),
      rw c.place.ensures (IsRising-inserted c.args.entry c.self.inside.entries.items c.self.invariant.2 absent),
    )

pub returns : goal.returns
returns c =
    rw (← c.self.view_is)
    (same_entries c.self.inside.size _ (inserted_entry c.args.entry c.self.inside.entries.items) c.place.ensures)
