use Rattle.std.proofs.Common.{◌≡◌, drop}
use Rattle.charts.specs.Found.{registers_width, width_over}
use Rattle.charts.proofs.registers.registers_width.Given as goal

-- the rows from this one on are left
abbrev pub invariant-loop-number : goal.invariant-loop-number
invariant-loop-number l = width_over l.view l.registers l.number l.width (drop l.number l.rows)
    ≡ registers_width l.view l.registers l.rows
