use Rattle.std.proofs.Common.{◌≡◌, ℕ, ◌<◌, length, slice_index}
use Rattle.numbers.specs.Layout.{first_register}
use Rattle.rename_map.proofs.HartMaps.new.Given as goal

-- the places written so far
abbrev pub invariant-loop-register : goal.invariant-loop-register
invariant-loop-register l =
    (length l.map ≡ 32) × ((r : ℕ) → 0 < r → r < l.register → slice_index l.map r ≡ first_register l.hart r)
