use Rattle.load_store.specs.Queues.{touched_load}
use Rattle.load_store.proofs.Turning.{turned}
use Rattle.load_store.proofs.hart_queues.touch_each.Goals as goal

pub loop-load-preserved : goal.loop-load-preserved
loop-load-preserved c =
    let l = c.loop-load in
    turned (touched_load c.args.write) c.args.loads.now l.loads l.load-index _ _ c.loop-load-test.true l.auto.loads l.invariant
    c.after_write.ensures
