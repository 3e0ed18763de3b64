-- Behind a text that is no test, and behind one that is, with the settings for it.
use Rattle.event_text.specs.Sinking.{HasPut}
use Rattle.std.proofs.Common.{inl, inr, subst}
use Rattle.sim_inputs.specs.declared.settings.Settings.{Settings}
use Rattle.plain_commands.specs.Litmus.{IsTestRefusal, TestComesTo}
use Rattle.plain_commands.proofs.litmus.perform_litmus.Goals as goal

pub returns-in-Err-clause-refused : goal.returns-in-Err-clause-refused
returns-in-Err-clause-refused g c = inl c.in-Err.ensures.refused

pub returns-clause-refused : goal.returns-clause-refused
returns-clause-refused g c = inr (
  c.in-Ok.test,
  c.in-Ok.ensures.read,
  c.in-Ok.ensures.sound,
  subst (λ (s : Settings). IsTestRefusal c.in-Ok.test s c.args.command.now c.in-Err-perform_test.refused)
      c.settings_for-settings.ensures c.in-Err-perform_test.ensures.refused,
)

pub returns-in-Ok-perform_test-clause-ended : goal.returns-in-Ok-perform_test-clause-ended
returns-in-Ok-perform_test-clause-ended g c = record {
  test = c.in-Ok.test;
  is_text = c.in-Ok.ensures.read;
  well_formed = c.in-Ok.ensures.sound;
  comes = subst (λ (s : Settings). TestComesTo c.in-Ok.test s c.args.command.now
      (HasPut g.S.Sink.written g.S.Sink.has_failed c.args.file.now c.perform_test.new.file)
      (g.W.Write.contents c.args.out.now) (g.W.Write.contents c.perform_test.new.out) c.in-Ok-perform_test.status)
      c.settings_for-settings.ensures c.in-Ok-perform_test.ensures.ended;
}
