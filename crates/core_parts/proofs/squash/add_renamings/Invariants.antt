use Rattle.std.proofs.Common.{◌≡◌, ◌+◌, ◌<◌, ◌≤◌, ℕ, take, length, All}
use Rattle.rename_map.specs.Maps.{renamed_by, IsWritable}
use Rattle.core_parts.specs.Squash.{mapped_by}
use Rattle.core_parts.proofs.squash.add_renamings.Given as goal

-- So far the renamings are those before and those of the first members.
abbrev pub invariant-loop-one : goal.invariant-loop-one
invariant-loop-one l =
    (length l.renamings.items ≤ length l.fn.renamings.items + l.one-index)
    × All (λ x. IsWritable x.0) l.renamings.items
    × ((r before : ℕ) → 0 < r → r < 32
    → renamed_by l.renamings.items r before
    ≡ mapped_by r (take l.one-index l.active) (renamed_by l.fn.renamings.items r before))
