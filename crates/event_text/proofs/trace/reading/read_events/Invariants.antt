use Rattle.std.proofs.Common.{◌≡◌, ◌++◌, length}
use Rattle.event_text.specs.Trace.{event_lines, AreWithin}
use Rattle.event_text.proofs.trace.reading.read_events.Given as goal

abbrev pub invariant-loop-rest : goal.invariant-loop-rest
invariant-loop-rest l = (l.fn.lines ≡ event_lines l.events.items ++ l.rest) × AreWithin l.head l.events.items

abbrev pub decreases-loop-rest : goal.decreases-loop-rest
decreases-loop-rest l = length l.rest
