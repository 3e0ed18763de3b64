-- Behind a test that is refused, and before and behind the flush.
use Rattle.event_text.specs.Sinking.{HasPut}
use Rattle.commands.proofs.OfTest.{test_refusal, test_output, test_flushed}
use Rattle.commands.proofs.performing.read_and_test.Goals as goal

pub returns-in-Err-clause-refused : goal.returns-in-Err-clause-refused
returns-in-Err-clause-refused g c =
    rw (c.in_ok-sizes.was, c.in_ok-text.was)
    (test_refusal c.args.litmus.now _ _ _ c.in_ok-settings.ensures.settings c.in-Err.refused
    c.in-Err.ensures.refused)

pub returns-in-Err-flush-clause-refused : goal.returns-in-Err-flush-clause-refused
returns-in-Err-flush-clause-refused g c =
    rw (c.in_ok-sizes.was, c.in_ok-text.was)
    (test_output c.args.litmus.now _ c.in_ok-text.text.now _ c.in_ok-settings.ensures.settings
    (HasPut g.S.Sink.written g.S.Sink.has_failed c.args.context.now.files c.test_or_run.new.context.files)
    (g.W.Write.contents c.args.context.now.out) (g.W.Write.contents c.test_or_run.new.context.out) _
    c.in-Ok.ensures.ended)

pub returns-in-Ok-flush-clause-ended : goal.returns-in-Ok-flush-clause-ended
returns-in-Ok-flush-clause-ended g c =
    rw (c.in_ok-sizes.was, c.in_ok-text.was)
    (test_flushed c.args.litmus.now _ c.in_ok-text.text.now _ c.in_ok-settings.ensures.settings
    (HasPut g.S.Sink.written g.S.Sink.has_failed c.args.context.now.files c.test_or_run.new.context.files)
    (g.W.Write.contents c.args.context.now.out) (g.W.Write.contents c.test_or_run.new.context.out) _
    c.in-Ok.ensures.ended (g.W.Write.contents c.flush.new.self) c.flush.ensures.bytes)
