use Rattle.std.proofs.Common.{leb, rules}
use Rattle.arrayvec.proofs.ArrayVecLemmas.{filter-from_retain}
use Rattle.load_store.specs.Queues.{IsSized, load_numbers, numbers, load_stays, stays}
use Rattle.load_store.proofs.Rising.{IsRising-filter, AllByRecursion-filter, load_numbers-filter, numbers-filter}
use Rattle.load_store.proofs.hart_queues.HartQueues.squash.Goals as goal

pub invariant_of-self : goal.invariant_of-self
invariant_of-self c =
    let q = c.self.inside in
    let after = c.args.after in
    let loads = filter-from_retain _ (load_stays after) _ (λ x b g y called. search rules) _ _
    c.retain.ensures.filtered in
    let stores = filter-from_retain _ (stays after) _ (λ x b g y called. search rules) _ _
    c.retain-2.ensures.filtered in (
      rw (loads, ← load_numbers-filter after q.loads.items)
          (IsRising-filter (λ x. leb x after) (load_numbers q.loads.items) c.self.invariant.0),
      rw (stores, ← numbers-filter after q.stores.items)
          (IsRising-filter (λ x. leb x after) (numbers q.stores.items) c.self.invariant.1),
      rw stores (AllByRecursion-filter IsSized (stays after) q.stores.items c.self.invariant.2),
    )

pub returns : goal.returns
returns c =
    let after = c.args.after in
    let loads = filter-from_retain _ (load_stays after) _ (λ x b g y called. search rules) _ _
    c.retain.ensures.filtered in
    let stores = filter-from_retain _ (stays after) _ (λ x b g y called. search rules) _ _
    c.retain-2.ensures.filtered in
    rw (← c.self.view_is) (λ i. record { loads = loads i; stores = stores i })
