use Rattle.stress_runs.specs.Kept.{order_of, order_text}
use Rattle.stress_runs.proofs.{Staying.finished_put, Ordering.order_is}
use Rattle.stress_runs.proofs.keeping.put_order_file.Goals as goal

pub returns-clause-put : goal.returns-clause-put
returns-clause-put g c =
    let core = c.args.core.now in
    let harts = order_is c.account.result.records.now core.past c.account.ensures.records in
    let put = c.in_ok-put_order.ensures.put in
    finished_put g.F.Sink.written g.F.Sink.has_failed c.args.files.now c.put_order.new.sink c.finish.new.self
    (order_text (order_of core)) c.finish.result (rw harts at put) c.finish.ensures.kept c.finish.ensures.works
