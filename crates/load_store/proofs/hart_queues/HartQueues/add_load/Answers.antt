use Rattle.std.proofs.Common.{sym, subst}
use Rattle.load_store.specs.Queues.{Queues, Above, load_numbers, new_load}
use Rattle.load_store.proofs.Rising.{IsRising-push, load_numbers-push}
use Rattle.load_store.proofs.hart_queues.HartQueues.add_load.Goals as goal

pub invariant_of-self : goal.invariant_of-self
invariant_of-self c =
    let q = c.self.inside in
    let x = new_load c.args.seq in
    let above = subst (λ (q : Queues). Above c.args.seq (load_numbers q.loads)) (sym c.self.view_is) c.requires.above in (
      rw (c.push.ensures.items, load_numbers-push q.loads.items x)
          (IsRising-push (load_numbers q.loads.items) c.args.seq c.self.invariant.0 above),
      c.self.invariant.1,
      c.self.invariant.2,
    )
