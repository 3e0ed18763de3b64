use Rattle.std.specs.Prelude.{length}
use Rattle.smt_model.specs.Flights.{flight}
use Rattle.chart_counters.proofs.Arrays.{AreWritten}
use Rattle.chart_counters.proofs.reading.in_flight.Given as goal

-- those of the harts so far
abbrev pub invariant-loop-hart : goal.invariant-loop-hart
invariant-loop-hart l = AreWritten l.hart l.core.setup.harts (λ h. length (flight l.core.past h)) l.counts
