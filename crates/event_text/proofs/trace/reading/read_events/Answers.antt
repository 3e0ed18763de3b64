use Rattle.std.proofs.Common.{tests, sym, arith}
use Rattle.std.proofs.lemmas.List.Elements.{All-nil, All-push}
use Rattle.event_text.specs.{Ranges.IsEventWithin, Ranges.ranges_of}
use Rattle.event_text.proofs.{RefusalLaws.refused_behind, TraceLaws.event_lines-none, TraceLaws.one_more}
use Rattle.event_text.proofs.trace.reading.read_events.Goals as goal

pub loop-rest-init : goal.loop-rest-init
loop-rest-init c =
    rw c.in-Ok.ensures.items
    (sym (event_lines-none c.args.lines.now), All-nil (IsEventWithin (ranges_of c.args.head.now)))

pub loop-rest-preserved : goal.loop-rest-preserved
loop-rest-preserved c =
    rw c.in_ok-push-in-Ok-read_first_event.ensures.items (
      one_more _ _ _ _ _ c.loop-rest.invariant.0 c.in-Ok-read_first_event.ensures.read,
      All-push (IsEventWithin (ranges_of c.args.head.now)) _ _ c.loop-rest.invariant.1
          (rw c.ranges-ranges.ensures at c.in-Ok-read_first_event.ensures.in_range),
    )

pub returns-in-Err-clause-refused : goal.returns-in-Err-clause-refused
returns-in-Err-clause-refused c =
    refused_behind c.args.head.now c.loop-rest.events.items c.args.lines.now c.loop-rest.rest.now _ _ c.requires
    c.loop-rest.invariant.1 c.loop-rest.invariant.0
    (λ none. grind (arith, tests, c.loop-rest-test.true, c.is_empty.ensures, none))
    (omega (arith, c.len.ensures, c.line_count.ensures))
    (rw c.ranges-ranges.ensures at c.in-Err.ensures.broken)
