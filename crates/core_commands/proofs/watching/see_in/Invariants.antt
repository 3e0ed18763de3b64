use Rattle.std.proofs.Common.{◌≡◌, ◌<◌, ℕ, Some, slice_get}
use Rattle.watched_outcomes.specs.declared.watch.WatchedBytes.{WatchedBytes}
use Rattle.outcomes.specs.Refusals.{CanLoad}
use Rattle.core_commands.proofs.watching.see_in.Given as goal

-- the places before this one can be loaded
abbrev pub invariant-loop-index : goal.invariant-loop-index
invariant-loop-index l = (k : ℕ) (w : WatchedBytes) → k < l.index → slice_get l.watch.words.items k ≡ Some w
    → CanLoad l.memory.image w
