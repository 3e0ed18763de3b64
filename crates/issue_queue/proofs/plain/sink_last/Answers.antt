use Rattle.std.proofs.Common.{length, ◌-◌, arith}
use Rattle.issue_queue.proofs.Moving.{moved_more, above_more, placed_behind}
use Rattle.issue_queue.proofs.plain.sink_last.Goals as goal

pub returns-then-entries-before : goal.returns-then-entries-before
returns-then-entries-before c =
    placed_behind c.args.entry.now _ c.args.entries.now c.loop-before.entries (length c.args.entries.now - 1)
    c.loop-before.before (omega (arith, c.loop-before-test.true)) (omega (arith, c.loop-before.auto.before))
    (omega (arith, c.requires.spare)) c.loop-before.invariant.moved c.requires.rising c.if-entries-before.true
    c.loop-before.invariant.above

pub loop-before-preserved : goal.loop-before-preserved
loop-before-preserved c = record {
  moved =
      moved_more c.args.entry.now _ c.args.entries.now c.loop-before.entries (length c.args.entries.now - 1)
      c.loop-before.before (omega (arith, c.loop-before-test.true)) (omega (arith, c.loop-before.auto.before))
      (omega (arith, c.requires.spare)) c.loop-before.invariant.moved;
  above =
      above_more c.args.entry.now _ c.args.entries.now c.loop-before.entries (length c.args.entries.now - 1)
      c.loop-before.before (omega (arith, c.loop-before-test.true)) (omega (arith, c.loop-before.auto.before))
      (omega (arith, c.requires.spare)) c.loop-before.invariant.moved c.if-entries-before.false;
}
