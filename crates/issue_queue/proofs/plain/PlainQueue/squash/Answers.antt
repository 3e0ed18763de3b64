use Rattle.std.proofs.Common.{filter, arith, rules}
use Rattle.arrayvec.proofs.ArrayVecLemmas.{filter-from_retain}
use Rattle.issue_queue.specs.Queue.{stays}
use Rattle.issue_queue.proofs.Rising.{IsRising-filter, same_entries}
use Rattle.issue_queue.proofs.plain.PlainQueue.squash.Goals as goal

pub invariant_of-self : goal.invariant_of-self
invariant_of-self c =
    let kept = filter-from_retain _ (stays c.args.hart c.args.after) _
    (λ x b g y called. search rules) _ _ c.retain.ensures.filtered in (
      omega arith,
      omega (arith, c.retain.ensures.bound),
      rw kept (IsRising-filter (stays c.args.hart c.args.after) c.self.inside.entries.items c.self.invariant.2),
    )

pub returns : goal.returns
returns c =
    let kept = filter-from_retain _ (stays c.args.hart c.args.after) _
    (λ x b g y called. search rules) _ _ c.retain.ensures.filtered in
    rw (← c.self.view_is)
    (same_entries c.self.inside.size c.retain.new.self.items
    (filter (stays c.args.hart c.args.after) c.self.inside.entries.items) kept)
