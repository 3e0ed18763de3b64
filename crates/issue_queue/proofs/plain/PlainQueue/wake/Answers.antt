use Rattle.std.proofs.Common.{length, ap, ◌∙◌, arith}
use Rattle.arrayvec.proofs.ArrayVecLemmas.{items-with_items}
use Rattle.issue_queue.proofs.Rising.{IsRising-woken}
use Rattle.issue_queue.proofs.plain.PlainQueue.wake.Goals as goal

pub invariant_of-self : goal.invariant_of-self
invariant_of-self c =
    let same_length = c.wake_all.auto.entries ∙ ap length c.as_mut_slice.ensures.value in
    let written = items-with_items c.self.inside.entries c.wake_all.new.entries same_length in (
      omega arith,
      rw written (omega (arith, same_length)),
      rw (written, c.wake_all.ensures, c.as_mut_slice.ensures.value)
          (IsRising-woken c.args.register c.args.value c.self.inside.entries.items c.self.invariant.2),
    )
