use Rattle.smt_model.specs.Flights.{icount}
use Rattle.chart_counters.proofs.Arrays.{AreWritten}
use Rattle.chart_counters.proofs.reading.icounts.Given as goal

-- those of the harts so far
abbrev pub invariant-loop-hart : goal.invariant-loop-hart
invariant-loop-hart l = AreWritten l.hart l.core.setup.harts (icount l.core.past) l.counts
