-- Behind a text that is no test, and behind one that is, with the settings for it.
use Rattle.std.proofs.Common.{ap, inl, inr, subst}
use Rattle.event_text.specs.Sinking.{HasPut}
use Rattle.sim_inputs.specs.declared.settings.Settings.{Settings}
use Rattle.plain_commands.proofs.OfLitmus.{unwritten}
use Rattle.core_commands.specs.Making.{AreMade, LeavesCore}
use Rattle.core_commands.specs.TestRuns.{IsRunsRefusal, RunsComeTo}
use Rattle.core_commands.proofs.test_runs.perform_test_runs.Goals as goal

pub run_test-requires-clause-harts : goal.run_test-requires-clause-harts
run_test-requires-clause-harts g c = ap (λ (s : Settings). s.config.harts) c.settings_for-settings.ensures

pub returns-in-Err-clause-refused : goal.returns-in-Err-clause-refused
returns-in-Err-clause-refused g c = inl c.in-Err.ensures.refused

pub returns-clause-refused : goal.returns-clause-refused
returns-clause-refused g c = inr (
  c.in-Ok.test,
  c.in-Ok.ensures.read,
  c.in-Ok.ensures.sound,
  subst (λ (s : Settings). IsRunsRefusal s c.in-Err-run_test.refused) c.settings_for-settings.ensures
      c.in-Err-run_test.ensures.refused,
)

pub returns-clause-unwanted : goal.returns-clause-unwanted
returns-clause-unwanted g c none =
    c.in-Err-run_test.ensures.unwanted (unwritten c.args.command.now none).0

pub returns-in-Ok-run_test-clause-ended : goal.returns-in-Ok-run_test-clause-ended
returns-in-Ok-run_test-clause-ended g c = record {
  test = c.in-Ok.test;
  is_text = c.in-Ok.ensures.read;
  well_formed = c.in-Ok.ensures.sound;
  comes = subst (λ (s : Settings). RunsComeTo c.in-Ok.test s c.args.command.now c.args.times
      (AreMade (LeavesCore (goal.M-step g)) c.args.make_run.now c.run_test.new.make_run)
      (HasPut g.S.Sink.written g.S.Sink.has_failed c.args.context.now.files c.run_test.new.context.files)
      (g.W.Write.contents c.args.context.now.out) (g.W.Write.contents c.run_test.new.context.out) c.in-Ok-run_test.status)
      c.settings_for-settings.ensures c.in-Ok-run_test.ensures.ended;
}

pub returns-in-Ok-run_test-clause-unwanted : goal.returns-in-Ok-run_test-clause-unwanted
returns-in-Ok-run_test-clause-unwanted g c none =
    c.in-Ok-run_test.ensures.unwanted (unwritten c.args.command.now none).0
