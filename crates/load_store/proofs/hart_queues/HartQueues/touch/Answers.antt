use Rattle.std.proofs.Common.{length, ap, ◌∙◌}
use Rattle.arrayvec.proofs.ArrayVecLemmas.{items-with_items}
use Rattle.load_store.proofs.Rising.{load_numbers-touched}
use Rattle.load_store.proofs.hart_queues.HartQueues.touch.Goals as goal

pub invariant_of-self : goal.invariant_of-self
invariant_of-self c =
    let same_length = c.touch_each.auto.loads ∙ ap length c.as_mut_slice.ensures.value in
    let loads = items-with_items c.self.inside.loads c.touch_each.new.loads same_length in (
      rw (
        loads,
        c.touch_each.ensures,
        c.as_mut_slice.ensures.value,
        load_numbers-touched c.args.write c.self.inside.loads.items,
      )
          c.self.invariant.0,
      c.self.invariant.1,
      c.self.invariant.2,
    )
