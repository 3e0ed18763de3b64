use Rattle.std.proofs.Common.{◌≡◌, ℕ, ◌+◌, ◌-◌, ◌<◌, false}
use Rattle.chart_rows.specs.Looks.{writes_at}
use Rattle.chart_rows.proofs.looks.last_write.Given as goal

-- none of the last places has such a write
abbrev pub invariant-loop-later : goal.invariant-loop-later
invariant-loop-later l = (place : ℕ) → l.to < place + (l.later - l.from) → place < l.to
    → writes_at l.events l.op l.address place ≡ false
