use Rattle.std.proofs.Common.{length, ap, ◌∙◌}
use Rattle.arrayvec.proofs.ArrayVecLemmas.{items-with_items}
use Rattle.load_store.specs.Queues.{look_at}
use Rattle.load_store.proofs.Rising.{load_numbers-looking}
use Rattle.load_store.proofs.hart_queues.HartQueues.looked.Goals as goal

pub invariant_of-self : goal.invariant_of-self
invariant_of-self c =
    let same_length = c.look_from.auto.loads ∙ ap length c.as_mut_slice.ensures.value in
    let loads = items-with_items c.self.inside.loads c.look_from.new.loads same_length in (
      rw (
        loads,
        c.look_from.ensures,
        c.as_mut_slice.ensures.value,
        load_numbers-looking c.args.seq (look_at c.args.addr c.args.n) c.self.inside.loads.items,
      )
          c.self.invariant.0,
      c.self.invariant.1,
      c.self.invariant.2,
    )
