use Rattle.std.proofs.Common.{sym, ◌∙◌, ap, ◌++◌}
use Rattle.event_text.specs.Heads.{head_lines}
use Rattle.event_text.proofs.TraceLaws.{trace_text-cons}
use Rattle.event_text.proofs.trace.reading.read_parts.Goals as goal

pub returns-clause-read : goal.returns-clause-read
returns-clause-read c =
    c.in-Ok.ensures.read ∙ ap (λ lines. head_lines c.in-Ok.parts.0 ++ lines) c.in_ok-events.ensures.read
    ∙ sym (trace_text-cons c.in-Ok.parts.0 c.in_ok-events.events.items)
