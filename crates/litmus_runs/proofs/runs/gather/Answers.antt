use Rattle.std.proofs.Common.{◌≡◌, Some, slice_get, subst, take, Bool}
use Rattle.litmus_runs.specs.Ways.{AreRunsOf}
use Rattle.litmus_runs.specs.AllWays.{AreAllListed, AreAllLearnt}
use Rattle.litmus_runs.specs.Rounds.{IsTold}
use Rattle.litmus_runs.proofs.Gathering.{told_more}
use Rattle.litmus_runs.proofs.Listing.{some_at, zip_next}
use Rattle.litmus_runs.proofs.runs.gather.Goals as goal

pub loop-index-preserved : goal.loop-index-preserved
loop-index-preserved c =
    let items = c.deref-thread-items in
    let there = subst (λ xs. slice_get xs c.loop-index.index ≡ Some c.thread-item.result) items.ensures.value
    (some_at items.result.now c.loop-index.index c.thread-item.result c.loop-index-test.true c.thread-item.is) in
    record {
      runs = rw c.in_ok-push.ensures.items (zip_next (AreRunsOf c.args.test.now) c.args.test.now.threads.items
          c.loop-index.harts.items c.loop-index.index c.thread-item.result c.in_ok-hart.hart there
          c.loop-index.invariant.runs c.in_ok-hart.ensures.runs);
      written = c.in_ok-hart.ensures.written;
      kept = record {
        whole = λ h. c.loop-index.invariant.kept.whole (c.in_ok-hart.ensures.kept.whole h);
        kept = λ held known. c.in_ok-hart.ensures.kept.kept held (c.loop-index.invariant.kept.kept held known);
      };
      told = rw c.in_ok-push.ensures.items (zip_next (IsTold c.args.test.now c.args.known.now.held.items
          c.runs_of.new.written.known) c.args.test.now.threads.items
          c.loop-index.harts.items c.loop-index.index c.thread-item.result c.in_ok-hart.hart there
          (told_more c.args.test.now c.args.known.now.held.items c.loop-index.written.known c.runs_of.new.written.known
          (take c.loop-index.index c.args.test.now.threads.items) c.loop-index.harts.items c.in_ok-hart.ensures.kept
          c.loop-index.invariant.told)
          (record {
            listed = λ whole. subst (λ (b : Bool). AreAllListed b c.thread-item.result c.args.known.now.held.items
                c.in_ok-hart.hart.runs.items) c.has_conditionals-has_conditionals.ensures (c.in_ok-hart.ensures.listed whole);
            learnt = λ whole knows. subst (λ (b : Bool). AreAllLearnt b c.thread-item.result
                c.args.known.now.held.items c.runs_of.new.written.known.held.items) c.has_conditionals-has_conditionals.ensures
                (c.in_ok-hart.ensures.learnt whole knows);
          }));
    }
