use Rattle.std.proofs.Common.{◌≡◌, drop}
use Rattle.rename_map.specs.{Maps.kept_under, Places.kept_in}
use Rattle.rename_map.proofs.checkpoints.is_kept_in.Given as goal

-- the one that is wanted isn't among those so far
abbrev pub invariant-loop-place : goal.invariant-loop-place
invariant-loop-place l =
    kept_under l.seq (kept_in (drop l.place-index l.places)) ≡ kept_under l.seq (kept_in l.places)
