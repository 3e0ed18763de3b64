use Rattle.std.proofs.Common.{length, ap, ◌∙◌}
use Rattle.arrayvec.proofs.ArrayVecLemmas.{items-with_items}
use Rattle.load_store.proofs.Rising.{numbers-resolved, all-resolved}
use Rattle.load_store.proofs.hart_queues.HartQueues.resolve_store.Goals as goal

pub invariant_of-self : goal.invariant_of-self
invariant_of-self c =
    let same_length = c.resolve.auto.stores ∙ ap length c.as_mut_slice.ensures.value in
    let written = items-with_items c.self.inside.stores c.resolve.new.stores same_length in (
      c.self.invariant.0,
      rw (
        written,
        c.resolve.ensures,
        c.as_mut_slice.ensures.value,
        numbers-resolved c.args.seq c.args.write c.self.inside.stores.items,
      )
          c.self.invariant.1,
      rw (written, c.resolve.ensures, c.as_mut_slice.ensures.value)
          (all-resolved c.args.seq c.args.write c.self.inside.stores.items c.requires c.self.invariant.2),
    )
