use Rattle.std.proofs.Common.{map, take}
use Rattle.event_text.specs.Sinking.{HasPutBut}
use Rattle.stress_runs.specs.Kept.{order_text}
use Rattle.stress_runs.proofs.order.put_order.Given as goal

-- the harts so far are put but for the piece
abbrev pub invariant-loop-retired : goal.invariant-loop-retired
invariant-loop-retired g l =
    HasPutBut g.S.Sink.written g.S.Sink.has_failed l.fn.sink l.sink
    (order_text (map (λ r. r.hart) (take l.retired-index l.records))) l.piece.bytes
