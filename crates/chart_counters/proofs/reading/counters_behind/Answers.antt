use Rattle.std.proofs.Common.{◌∙◌, ap, length}
use Rattle.chart_counters.proofs.Counting.{so_many_free}
use Rattle.chart_counters.proofs.reading.counters_behind.Goals as goal

pub returns : goal.returns
returns c =
    let core = c.args.core.now in
    record {
      icount = c.icounts.ensures;
      chosen = c.fetched_hart.ensures;
      queue = c.waiting.ensures;
      in_flight = c.in_flight.ensures;
      free = c.len.ensures.value ∙ (ap length c.free_registers.ensures.free ∙ so_many_free core.setup core.past);
    }
