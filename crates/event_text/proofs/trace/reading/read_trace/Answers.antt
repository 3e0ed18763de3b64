use Rattle.event_text.proofs.RefusalLaws.{gives}
use Rattle.event_text.proofs.trace.reading.read_trace.Goals as goal

pub returns-clause-back : goal.returns-clause-back
returns-clause-back c =
    gives c.args.text.now c.read_parts.result c.read_parts.ensures.read c.read_parts.ensures.is_head
    c.read_parts.ensures.in_range c.read_parts.ensures.refused
