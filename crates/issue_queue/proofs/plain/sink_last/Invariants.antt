use Rattle.std.proofs.Common.{◌≡◌, ◌+◌, ◌-◌, ◌∷◌, ◌++◌, length, take, drop}
use Rattle.issue_queue.specs.Queue.{inserted_entry}
use Rattle.issue_queue.proofs.plain.sink_last.Given as goal

-- what is above the entry has moved up by one, and the rest hasn't moved
abbrev pub invariant-loop-before : goal.invariant-loop-before
invariant-loop-before l = record {
  moved : l.entries ≡ take (l.before + 1) l.initial.entries
      ++ drop l.before (take (length l.initial.entries - 1) l.initial.entries);
  above : inserted_entry l.entry (drop l.before (take (length l.initial.entries - 1) l.initial.entries))
      ≡ l.entry ∷ drop l.before (take (length l.initial.entries - 1) l.initial.entries);
}
