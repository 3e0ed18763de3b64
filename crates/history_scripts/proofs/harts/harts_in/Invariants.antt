use Rattle.std.proofs.Common.{◌≡◌}
use Rattle.history_check.specs.Checking.{past_at}
use Rattle.history_scripts.specs.Lines.{harts_in}
use Rattle.history_scripts.proofs.harts.harts_in.Given as goal

-- the harts of the instructions that were fetched so far
abbrev pub invariant-loop-event : goal.invariant-loop-event
invariant-loop-event l = l.harts.items ≡ harts_in (past_at l.events l.event-index)
