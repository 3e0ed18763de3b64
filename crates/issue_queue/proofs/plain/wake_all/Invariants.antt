use Rattle.std.proofs.Common.{◌≡◌, ◌++◌, map, take, drop}
use Rattle.issue_queue.specs.Entry.{woken_entry}
use Rattle.issue_queue.proofs.plain.wake_all.Given as goal

abbrev pub invariant-loop-entry : goal.invariant-loop-entry
invariant-loop-entry l = l.entries ≡ map (woken_entry l.register l.value) (take l.entry-index l.initial.entries)
    ++ drop l.entry-index l.initial.entries
