use Rattle.std.proofs.Common.{◌≡◌, ℕ, slice_index_or, length, nat_lt, if◌then◌else◌}
use Rattle.stories.specs.Takers.{watch_heard}
use Rattle.stories.specs.declared.teller.Watch.{Watch}
use Rattle.stories.proofs.teller.Teller.hear.Given as goal

-- the harts below this one have heard the row, and of the others it is as it was
abbrev pub invariant-loop-hart : goal.invariant-loop-hart
invariant-loop-hart l =
    (length l.self.watches ≡ length l.fn.self.watches)
    × ((h : ℕ) (d : Watch) → slice_index_or l.self.watches h d
    ≡ (if nat_lt h l.hart then watch_heard h l.row (slice_index_or l.fn.self.watches h d)
    else slice_index_or l.fn.self.watches h d))
