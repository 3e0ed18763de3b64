use Rattle.std.proofs.lemmas.Result.{on_ok_weaker}
use Rattle.stress_runs.proofs.keeping.keep_end.Goals as goal

pub returns-clause-kept : goal.returns-clause-kept
returns-clause-kept g c =
    on_ok_weaker c.put_file.result
    (λ put. record {
      for_trace = c.begin.new.self;
      begun_trace = c.in_ok-begin.ensures.begun;
      traced = c.put_trace_file.new.files;
      trace = c.in_ok-put_trace_file.ensures.put;
      for_order = c.begin-2.new.self;
      begun_order = c.in_ok-begin-2.ensures.begun;
      after_order = c.put_order_file.new.files;
      ordered = c.in_ok-put_order_file.ensures.put;
      for_story = c.begin-3.new.self;
      begun_story = c.in_ok-begin-3.ensures.begun;
      told = put;
    })
    c.put_file.ensures.put
