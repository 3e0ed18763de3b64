use Rattle.std.proofs.Common.{◌∙◌}
use Rattle.load_store.proofs.Resolving.{resolved_more, resolved_other}
use Rattle.load_store.proofs.hart_queues.resolve.Goals as goal
use Rattle.load_store.proofs.hart_queues.resolve.Goals.{then-store-seq, else-store-seq}

pub loop-store-preserved : goal.loop-store-preserved
loop-store-preserved c =
    let x = c.args in
    let l = c.loop-store in
    let inside = c.loop-store-test.true in
    elim c.if-store-seq.branch [
      | then-store-seq w ↦ w.stores-is
          ∙ resolved_more x.seq x.write x.stores.now l.stores l.store-index _ inside l.auto.stores l.invariant
          w.if-store-seq.true
      | else-store-seq w ↦ w.stores-is
          ∙ resolved_other x.seq x.write x.stores.now l.stores l.store-index _ inside l.auto.stores l.invariant
          w.if-store-seq.false
    ]
