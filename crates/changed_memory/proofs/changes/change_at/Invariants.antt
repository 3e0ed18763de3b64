use Rattle.std.proofs.Common.{◌≡◌, ℕ, drop}
use Rattle.changed_memory.specs.Shared.{changed}
use Rattle.changed_memory.proofs.changes.change_at.Given as goal

-- what is left of the changes says it
abbrev pub invariant-loop-change : goal.invariant-loop-change
invariant-loop-change l =
    (before : ℕ) → changed l.changes l.addr before ≡ changed (drop l.change-index l.changes) l.addr before
