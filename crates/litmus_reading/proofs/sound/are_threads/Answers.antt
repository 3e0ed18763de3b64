use Rattle.std.proofs.Common.{sym, subst}
use Rattle.litmus_tests.specs.declared.test.Thread.{Thread}
use Rattle.std.proofs.lemmas.List.Elements.{All-more}
use Rattle.litmus_tests.specs.WellFormed.{IsThread}
use Rattle.litmus_reading.proofs.Told.{all_told}
use Rattle.litmus_reading.proofs.sound.are_threads.Goals as goal

pub loop-thread-preserved : goal.loop-thread-preserved
loop-thread-preserved c =
    All-more (IsThread c.args.words) c.args.threads.now _ c.thread-item.result c.loop-thread-test.true
    c.loop-thread.invariant
    (subst (λ (thread : Thread). IsThread c.args.words thread) c.thread-item.is
    (c.is_thread.ensures.yes c.if-not-is_thread.false))

pub returns-clause-yes : goal.returns-clause-yes
returns-clause-yes c = λ is.
    all_told (IsThread c.args.words) c.args.threads.now c.loop-thread.thread-index c.loop-thread-test.false c.loop-thread.invariant

pub returns-then-not-is_thread-clause-no : goal.returns-then-not-is_thread-clause-no
returns-then-not-is_thread-clause-no c = λ is all.
    c.is_thread.ensures.no c.if-not-is_thread.true
    (subst (λ (thread : Thread). IsThread c.args.words thread) (sym c.thread-item.is)
    (all c.loop-thread.thread-index c.thread-item.result c.loop-thread-test.true))
