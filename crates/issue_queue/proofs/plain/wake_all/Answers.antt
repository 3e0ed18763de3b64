use Rattle.std.proofs.{Common.arith, lemmas.List.get_or_default, lemmas.List.Edits.map_over_more}
use Rattle.issue_queue.specs.Entry.{woken_entry}
use Rattle.issue_queue.proofs.plain.wake_all.Goals as goal

pub loop-entry-preserved : goal.loop-entry-preserved
loop-entry-preserved c =
    rw c.wake.ensures
    (map_over_more (woken_entry c.args.register c.args.value) c.args.entries.now c.loop-entry.entries
    c.loop-entry.entry-index _ c.loop-entry-test.true c.loop-entry.invariant
    (get_or_default c.loop-entry.entries c.loop-entry.entry-index _ _ (omega arith)))
