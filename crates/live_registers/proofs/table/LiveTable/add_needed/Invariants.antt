use Rattle.live_registers.specs.Table.{IsOfCode}
use Rattle.live_registers.proofs.table.LiveTable.add_needed.Given as goal

-- There is a row for each word.
abbrev pub invariant-loop-turn : goal.invariant-loop-turn
invariant-loop-turn l = IsOfCode l.code l.self
