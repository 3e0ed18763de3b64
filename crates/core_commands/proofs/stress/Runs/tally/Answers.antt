use Rattle.std.proofs.Common.{◌≡◌, ◌+◌, ◌<◌, ◌^◌, ◌∙◌, arith}
use Rattle.core_commands.specs.Making.{LeavesCore}
use Rattle.core_commands.proofs.OfStress.{first_run, one_more_run}
use Rattle.core_commands.proofs.stress.Runs.tally.Goals as goal

pub loop-run-init : goal.loop-run-init
loop-run-init g c =
    let once = c.in_ok-run_once.ensures in
    record {
      callable = once.callable;
      tallied = first_run g.F.EndFiles.begins g.F.Sink.written g.F.Sink.has_failed (LeavesCore (goal.M-step g)) _ _ _ _
          c.args.keep _ _ _ _ _ _ c.new-tally.ensures once.ran;
      works = once.unbroken;
      finished = once.finished;
      unwanted = once.unwanted;
    }

pub loop-run-preserved : goal.loop-run-preserved
loop-run-preserved g c =
    let so_far = c.loop-run.invariant in
    let once = c.in_ok-run_once-2.ensures in
    let few : c.loop-run._run + 1 < 2 ^ 32 = omega (arith, c.loop-run-test.true, c.ranges.count.fits) in
    record {
      callable = once.callable;
      tallied = one_more_run g.F.EndFiles.begins g.F.Sink.written g.F.Sink.has_failed (LeavesCore (goal.M-step g)) _ _ _
          _ c.args.keep _ _ _ _ _ _ c.loop-run._run _ _ few so_far.tallied once.ran;
      works = once.unbroken;
      finished = once.finished;
      unwanted = λ unkept. once.unwanted unkept ∙ so_far.unwanted unkept;
    }
