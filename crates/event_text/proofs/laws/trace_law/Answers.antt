use Rattle.event_text.proofs.{RefusalLaws.not_refused, RefusalLaws.refused_once, TraceLaws.same_trace}
use Rattle.event_text.proofs.laws.trace_law.Goals as goal

pub returns-clause-own : goal.returns-clause-own
returns-clause-own c = same_trace

pub returns-clause-taken : goal.returns-clause-taken
returns-clause-taken c = not_refused

pub returns-clause-once : goal.returns-clause-once
returns-clause-once c = refused_once
