use Rattle.std.proofs.{Common.arith, lemmas.List.get_or_default, lemmas.List.Edits.map_over_more}
use Rattle.issue_queue.specs.Entry.{woken_source}
use Rattle.issue_queue.proofs.entry.wake_sources.Goals as goal

pub loop-source-preserved : goal.loop-source-preserved
loop-source-preserved c =
    rw c.wake.ensures
    (map_over_more (woken_source c.args.register c.args.value) c.args.sources.now c.loop-source.sources
    c.loop-source.source-index _ c.loop-source-test.true c.loop-source.invariant
    (get_or_default c.loop-source.sources c.loop-source.source-index _ _ (omega arith)))
