-- A hart's two maps from its registers to physical registers, and the maps that are kept of it.
use Rattle.std.specs.Prelude.{◌≡◌, ℕ, ◌<◌, ◌==◌, not, nat_le, List, [], ◌∷◌, ◌++◌, filter, find}
use Rattle.std.specs.Prelude.{Option, Some, None, slice_index, if◌then◌else◌}

-- a map that is kept under the number of an instruction (a checkpoint; K. Yeager, "The MIPS R10000
-- superscalar microprocessor", IEEE Micro 1996)
pub record Checkpoint : Type 0 where
  pub seq : ℕ
  pub map : List ℕ

-- the most that are kept of a hart
abbrev pub most_checkpoints : ℕ
most_checkpoints = 8

-- the physical register of each register, by its number; and the maps that are kept
pub record Maps : Type 0 where
  pub speculative : List ℕ
  pub committed : List ℕ
  pub kept : List Checkpoint

-- where the youngest value of a register is, or will be
abbrev pub lookup : Maps → ℕ → ℕ
lookup m r = slice_index m.speculative r

-- where its retired value is
abbrev pub committed_of : Maps → ℕ → ℕ
committed_of m r = slice_index m.committed r

-- where it was, or would be, at a checkpoint
abbrev pub kept_of : Checkpoint → ℕ → ℕ
kept_of k r = slice_index k.map r

-- the register can be written: it is x1 to x31 (RISC-V Unprivileged ISA, "RV32I")
abbrev pub IsWritable : ℕ → Type 0
IsWritable r = (0 < r) × (r < 32)

-- where register r is after these renamings, the oldest first, if it was at p
abbrev pub renamed_by : List (ℕ × ℕ) → ℕ → ℕ → ℕ
renamed_by [] r p = p
renamed_by (x ∷ xs) r p = renamed_by xs r (if r == x.0 then x.1 else p)

-- ---- Checkpoints

-- the one that is kept under a number
abbrev pub kept_under : ℕ → List Checkpoint → Option Checkpoint
kept_under seq ks = find (λ k. k.seq == seq) ks

-- without the one of this number
abbrev pub released : ℕ → List Checkpoint → List Checkpoint
released seq ks = filter (λ k. not (k.seq == seq)) ks

-- without those of greater numbers
abbrev pub released_after : ℕ → List Checkpoint → List Checkpoint
released_after seq ks = filter (λ k. nat_le k.seq seq) ks

-- this one is kept too, and all others are as they were
pub record KeepsToo (k : Checkpoint) (old new : List Checkpoint) : Type 0 where
  pub front : List Checkpoint
  pub rest : List Checkpoint
  pub was : old ≡ front ++ rest
  pub now : new ≡ front ++ k ∷ rest

-- the map that is kept under a number is the speculative one again, and this and all greater
-- numbers are released; nothing changes where none is kept under it
abbrev pub restored_to : Option Checkpoint → ℕ → Maps → Maps
restored_to None seq m = m
restored_to (Some k) seq m =
    record m { speculative = k.map; kept = released seq (released_after seq m.kept) }

abbrev pub restored : ℕ → Maps → Maps
restored seq m = restored_to (kept_under seq m.kept) seq m
