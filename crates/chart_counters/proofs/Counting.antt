-- How many registers are free.
use Rattle.std.specs.Prelude.{◌≡◌, List, length}
use Rattle.std.proofs.Common.{refl}
use Rattle.events.specs.declared.event.Event.{Event}
use Rattle.core_parts.specs.Listed.{listed}
use Rattle.smt_model.specs.{Picture.is_free, Setup.Setup}
use Rattle.chart_counters.specs.Counters.{free_count}

pub so_many_free : (setup : Setup) (past : List Event) → length (listed (is_free setup past)) ≡ free_count setup past
unfolding listed
so_many_free setup past = refl
