use Rattle.std.proofs.Common.{[]}
use Rattle.event_text.proofs.SinkLaws.{HasPutBut-nil}
use Rattle.stress_runs.proofs.Ordering.{order_step}
use Rattle.stress_runs.proofs.order.put_order.Goals as goal

pub loop-retired-init : goal.loop-retired-init
loop-retired-init g c =
    rw c.new-piece.ensures (HasPutBut-nil g.S.Sink.written g.S.Sink.has_failed c.args.sink.now [] c.requires)

pub loop-retired-preserved : goal.loop-retired-preserved
loop-retired-preserved g c =
    order_step g.S.Sink.written g.S.Sink.has_failed _ _ _ c.args.records.now c.loop-retired.retired-index _ _ _ _
    c.loop-retired-test.true c.loop-retired.invariant c.in_ok-make_room.ensures.held c.push_line.ensures
