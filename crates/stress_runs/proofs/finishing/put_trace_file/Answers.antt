use Rattle.reports.specs.Traces.{trace_of}
use Rattle.stress_runs.proofs.Staying.{finished_put}
use Rattle.stress_runs.proofs.finishing.put_trace_file.Goals as goal

pub returns-clause-put : goal.returns-clause-put
returns-clause-put g c =
    finished_put g.F.Sink.written g.F.Sink.has_failed c.args.files.now c.put_trace.new.sink c.finish.new.self
    (trace_of c.args.core.now) c.finish.result c.in_ok-put_trace.ensures.put c.finish.ensures.kept
    c.finish.ensures.works
