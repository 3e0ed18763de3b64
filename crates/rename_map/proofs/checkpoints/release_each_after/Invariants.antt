use Rattle.std.proofs.Common.{◌≡◌, ◌++◌, map, take, drop}
use Rattle.rename_map.specs.Places.{place_released_after}
use Rattle.rename_map.proofs.checkpoints.release_each_after.Given as goal

abbrev pub invariant-loop-place : goal.invariant-loop-place
invariant-loop-place l =
    l.places ≡ map (place_released_after l.seq) (take l.place-index l.initial.places) ++ drop l.place-index l.initial.places
