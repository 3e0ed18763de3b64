use Rattle.stress_runs.proofs.Staying.{finished_put}
use Rattle.stress_runs.proofs.finishing.put_file.Goals as goal

pub returns-clause-put : goal.returns-clause-put
returns-clause-put g c =
    finished_put g.F.Sink.written g.F.Sink.has_failed c.args.files.now c.put_all.new.sink c.finish.new.self
    c.args.bytes.now c.finish.result c.in_ok-put_all.ensures.printed c.finish.ensures.kept c.finish.ensures.works
