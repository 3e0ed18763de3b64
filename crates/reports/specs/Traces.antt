-- The trace of a core. (This project's own choice.)
use Rattle.std.specs.Prelude.{ℕ, List, reverse}
use Rattle.event_text.specs.{Core.CoreSizes, Trace.trace_text}
use Rattle.event_text.specs.declared.head.LaterVersion.TheVariants.{Third}
use Rattle.event_text.specs.declared.head.TraceHead.TheVariants.{Later}
use Rattle.smt_model.specs.Setup.{Setup}
use Rattle.core_state.specs.View.{CoreView}

-- what it says of the core
abbrev pub sizes_in : Setup → CoreSizes
sizes_in setup = record { harts = setup.harts; extra = setup.extra; queue = setup.queue; roles = setup.roles }

-- its history, the oldest event first, as a trace of version 3
abbrev pub trace_of : CoreView → List ℕ
trace_of core = trace_text (Later Third (sizes_in core.setup)) (reverse core.past)
