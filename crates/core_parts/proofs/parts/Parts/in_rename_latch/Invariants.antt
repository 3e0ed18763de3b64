use Rattle.std.proofs.Common.{◌≡◌, ℕ, ◌<◌, None, slice_index_or}
use Rattle.core_parts.specs.{Place.slot_in, declared.hart.HartState.HartState}
use Rattle.core_parts.proofs.parts.Parts.in_rename_latch.Given as goal

abbrev pub invariant-loop-hart-2 : goal.invariant-loop-hart-2
invariant-loop-hart-2 l = (k : ℕ) (d : HartState) → k < l.hart
    → slot_in (slice_index_or l.state-items k d).rename_latch.items l.seq ≡ None
