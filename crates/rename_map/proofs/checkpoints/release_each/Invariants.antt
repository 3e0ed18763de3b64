use Rattle.std.proofs.Common.{◌≡◌, ◌++◌, map, take, drop}
use Rattle.rename_map.specs.Places.{place_released}
use Rattle.rename_map.proofs.checkpoints.release_each.Given as goal

abbrev pub invariant-loop-place : goal.invariant-loop-place
invariant-loop-place l =
    l.places ≡ map (place_released l.seq) (take l.place-index l.initial.places) ++ drop l.place-index l.initial.places
