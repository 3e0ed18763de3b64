-- What comes next, as an instruction says: a pc, or the end or the stop of its hart.
use Rattle.std.specs.Prelude.{ℕ, Bool, true, false, ◌==◌, if◌then◌else◌, Option, Some, None}
use Rattle.events.specs.declared.effect.Next.{Next}
use Rattle.events.specs.declared.effect.Next.TheVariants.{Pc}

-- The instruction ends or stops its hart.
abbrev pub is_last : Next → Bool
is_last (Pc pc) = false
is_last _ = true

-- The pc that a next names, or the one before.
abbrev pub pc_after : Next → ℕ → ℕ
pc_after (Pc pc) before = pc
pc_after _ before = before

-- Where a mispredicted instruction goes on. An end or a stop is found
-- out later, as it retires.
abbrev pub redirect_pc : Next → ℕ → Option ℕ
redirect_pc (Pc pc) predicted = if pc == predicted then None else Some pc
redirect_pc _ predicted = None
