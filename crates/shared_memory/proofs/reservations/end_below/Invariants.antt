use Rattle.std.proofs.Common.{◌≡◌, ℕ, slice_index_or, Some, None, length, nat_lt, if◌then◌else◌}
use Rattle.smt_model.specs.Reservations.{reservation_after_write}
use Rattle.events.specs.declared.effect.Written.{Written}
use Rattle.shared_memory.proofs.reservations.end_below.Given as goal

-- the harts below this one have lost what they lose, the others have what they had
abbrev pub invariant-loop-hart : goal.invariant-loop-hart
invariant-loop-hart l =
    (length l.reserved ≡ length l.fn.reserved)
    × ((w : Written) (h : ℕ) → w.addr ≡ l.addr → slice_index_or l.reserved h None
    ≡ (if nat_lt h l.hart then reservation_after_write (Some w) (slice_index_or l.fn.reserved h None)
    else slice_index_or l.fn.reserved h None))
