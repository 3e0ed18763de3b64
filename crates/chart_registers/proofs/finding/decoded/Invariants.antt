use Rattle.std.proofs.Common.{◌≢◌, ◌<◌, ℕ, Some}
use Rattle.smt_model.specs.{Basics.first, Flights.in_rename}
use Rattle.chart_registers.proofs.finding.decoded.Given as goal

-- it is the oldest decoded one of none of the harts so far
abbrev pub invariant-loop-hart : goal.invariant-loop-hart
invariant-loop-hart l = (h : ℕ) → h < l.hart → first (in_rename l.core.past h) ≢ Some l.seq
