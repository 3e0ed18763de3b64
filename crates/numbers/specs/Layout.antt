-- Which physical register is whose at the start: those of hart 0 come first, x1 to x31, then those
-- of hart 1, and so on.
-- Behind the last hart's are the extra ones.
use Rattle.std.specs.Prelude.{ℕ, ◌+◌, ◌-◌, ◌*◌}
use Rattle.numbers.specs.Sizes.{renamed_registers}

-- that of register r, 1 to 31, of hart h
abbrev pub first_register : ℕ → ℕ → ℕ
first_register h r = renamed_registers * h + r - 1

-- how many these harts begin with, and the first that is none of theirs
abbrev pub first_extra : ℕ → ℕ
first_extra harts = renamed_registers * harts
