-- What an instruction's access asks of memory.
use Rattle.std.specs.Prelude.{◌≡◌, ℕ, Bool, true, false, ◌⊎◌}
use Rattle.smt_model.specs.Kinds.{Kind, Loading, Reserving, Atomic}

-- An access moves one, two or four bytes.
abbrev pub IsSize : ℕ → Type 0
IsSize n = (n ≡ 1) ⊎ ((n ≡ 2) ⊎ (n ≡ 4))

-- Loads, LR and AMO read a number from memory; stores and SC only write.
abbrev pub reads_memory : Kind → Bool
reads_memory Loading = true
reads_memory Reserving = true
reads_memory Atomic = true
reads_memory _ = false
