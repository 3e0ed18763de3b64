use Rattle.load_store.specs.Queues.{looking}
use Rattle.load_store.proofs.Turning.{turned}
use Rattle.load_store.proofs.hart_queues.look_from.Goals as goal

pub loop-load-preserved : goal.loop-load-preserved
loop-load-preserved c =
    let l = c.loop-load in
    turned (looking c.args.seq c.args.look) c.args.loads.now l.loads l.load-index _ _ c.loop-load-test.true l.auto.loads l.invariant
    c.after_look.ensures
