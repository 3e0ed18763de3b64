use Rattle.std.proofs.Common.{◌≡◌, length, take}
use Rattle.rename_map.specs.Places.{kept_in}
use Rattle.rename_map.proofs.checkpoints.keep_in.Given as goal

-- no place so far was free
abbrev pub invariant-loop-place : goal.invariant-loop-place
invariant-loop-place l =
    (l.places ≡ l.initial.places) × (length (kept_in (take l.place-index l.initial.places)) ≡ l.place-index)
