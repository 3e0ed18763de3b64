use Rattle.std.proofs.Common.{◌≡◌, ◌≢◌, ℕ, ◌<◌, Some}
use Rattle.slab.specs.Slab.{get}
use Rattle.issue_queue.specs.declared.entry.Entry.{Entry}
use Rattle.issue_queue.proofs.parts.search_number.Given as goal

-- no entry so far has the number
abbrev pub invariant-loop-key : goal.invariant-loop-key
invariant-loop-key l = (k : ℕ) (e : Entry) → k < l.key → get l.entries k ≡ Some e → e.seq ≢ l.seq
