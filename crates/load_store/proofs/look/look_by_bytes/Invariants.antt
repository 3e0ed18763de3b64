use Rattle.std.proofs.Common.{◌≡◌, ℕ, ◌+◌, ◌<◌, ◌≤◌, length, slice_index}
use Rattle.load_store.specs.Looks.{seen}
use Rattle.load_store.proofs.look.look_by_bytes.Given as goal

-- the bytes so far, and none behind them
abbrev pub invariant-loop-index : goal.invariant-loop-index
invariant-loop-index l =
    (length l.bytes ≡ 4)
    × ((k : ℕ) → k < l.index → slice_index l.bytes k ≡ seen l.seq l.stores l.memory (l.addr + k))
    × ((k : ℕ) → l.index ≤ k → slice_index l.bytes k ≡ 0)
