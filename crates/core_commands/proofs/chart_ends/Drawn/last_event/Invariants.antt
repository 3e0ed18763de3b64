use Rattle.std.proofs.Common.{◌≡◌, ◌-◌, ◌≤◌, ℕ, false, length}
use Rattle.core_commands.specs.ChartEnds.{is_event_in}
use Rattle.core_commands.proofs.chart_ends.Drawn.last_event.Given as goal

-- none of the last events is of one
abbrev pub invariant-loop-back : goal.invariant-loop-back
invariant-loop-back l = (later : ℕ) → length l.self.events.now - l.back ≤ later
    → is_event_in l.self.hart l.symbol l.self.rows.now l.self.events.now later ≡ false
