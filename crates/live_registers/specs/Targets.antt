-- Where jumps by registers go on, as a table says it: it is taken as given, and each step is held against it. [This
-- project's own choice]
use Rattle.std.specs.Prelude.{ℕ, Bool, ◌==◌, ◌&&◌, ◌||◌}
use Rattle.std.specs.List.{list_any}
use Rattle.live_registers.specs.declared.targets.{Jump.Jump, Targets.Targets}

-- The jump is from one pc to another.
abbrev pub is_jump : ℕ → ℕ → Jump → Bool
is_jump from to jump = jump.from == from && jump.to == to

-- A jump by a register may go on from one pc at another: it is in the table, or each may go anywhere.
abbrev pub allows : Targets → ℕ → ℕ → Bool
allows targets from to = targets.anywhere || list_any (is_jump from to) targets.jumps.items
