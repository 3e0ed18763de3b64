use Rattle.event_text.specs.Sinking.{HasPut}
use Rattle.core_commands.proofs.OfTestRuns.{runs_anyhow}
use Rattle.commands.proofs.OfTest.{run_ended, run_refused}
use Rattle.commands.proofs.tested.test_or_run.Goals as goal

pub returns-in-Some-clause-refused : goal.returns-in-Some-clause-refused
returns-in-Some-clause-refused g c =
    run_refused c.args.litmus.now.run c.in-Some.times c.in-Some.is c.args.text.now c.args.settings c.args.litmus.now
    c.perform_test_runs.result c.perform_test_runs.ensures.refused

pub returns-in-Some-clause-ended : goal.returns-in-Some-clause-ended
returns-in-Some-clause-ended g c =
    run_ended c.args.litmus.now.run c.in-Some.times c.in-Some.is c.args.text.now c.args.settings c.args.litmus.now
    (HasPut g.S.Sink.written g.S.Sink.has_failed c.args.context.now.files c.perform_test_runs.new.context.files)
    (g.W.Write.contents c.args.context.now.out) (g.W.Write.contents c.perform_test_runs.new.context.out)
    c.perform_test_runs.result
    (runs_anyhow c.args.text.now c.args.settings c.args.litmus.now c.in-Some.times _ _ _ _ c.perform_test_runs.result
    c.perform_test_runs.ensures.ended)
