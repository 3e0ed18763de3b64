use Rattle.std.proofs.Common.{◌≡◌, ◌++◌}
use Rattle.event_text.specs.declared.head.LaterVersion.TheVariants.{Third}
use Rattle.event_text.specs.declared.head.TraceHead.TheVariants.{Later}
use Rattle.event_text.specs.{Sinking.HasPutBut, Trace.trace_text}
use Rattle.event_text.proofs.trace.printing.print_trace.Given as goal

-- the events so far and those to come are the history's, and the text of the first is put but for the piece
abbrev pub invariant-loop-event : goal.invariant-loop-event
invariant-loop-event g l = record {
  whole : l.yielded ++ l.event-iterator ≡ l.history.items;
  put : HasPutBut g.S.Sink.written g.S.Sink.has_failed l.fn.sink l.sink (trace_text (Later Third l.header) l.yielded)
      l.piece.bytes;
}
