use Rattle.std.proofs.Common.{sym, subst}
use Rattle.load_store.specs.Queues.{Queues, Above, IsSized, new_store, numbers}
use Rattle.load_store.proofs.Rising.{AllByRecursion-push, IsRising-push, numbers-push}
use Rattle.load_store.proofs.hart_queues.HartQueues.add_store.Goals as goal

pub invariant_of-self : goal.invariant_of-self
invariant_of-self c =
    let q = c.self.inside in
    let x = new_store c.args.seq in
    let above = subst (λ (q : Queues). Above c.args.seq (numbers q.stores)) (sym c.self.view_is) c.requires.above in (
      c.self.invariant.0,
      rw (c.push.ensures.items, numbers-push q.stores.items x)
          (IsRising-push (numbers q.stores.items) c.args.seq c.self.invariant.1 above),
      rw c.push.ensures.items (AllByRecursion-push IsSized q.stores.items x c.self.invariant.2 tt),
    )
