use Rattle.std.proofs.Common.{◌≡◌, ℕ, drop}
use Rattle.rename_map.specs.Maps.{lookup, committed_of, renamed_by}
use Rattle.rename_map.proofs.HartMaps.rebuild.Given as goal

-- the renamings that are left make of this map what all make of the committed one
abbrev pub invariant-loop-register : goal.invariant-loop-register
invariant-loop-register l =
    (l.self.committed ≡ l.fn.self.committed) × (l.self.kept ≡ l.fn.self.kept)
    × ((r : ℕ) → renamed_by (drop l.register-index l.renamings) r (lookup l.self r)
    ≡ renamed_by l.renamings r (committed_of l.fn.self r))
