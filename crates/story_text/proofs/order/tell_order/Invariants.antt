use Rattle.std.proofs.Common.{◌≡◌, take}
use Rattle.story_text.specs.{Order.OfEachStart, Text.plan_of}
use Rattle.story_text.proofs.Ordering.{IsSoFar}
use Rattle.story_text.proofs.order.tell_order.Given as goal

-- the steps below this one are told and made
abbrev pub invariant-loop-index : goal.invariant-loop-index
invariant-loop-index g l = (l.machine.room ≡ l.fn.machine.room)
    × OfEachStart l.fn.machine (λ setup. IsSoFar (plan_of l.form) setup (take l.index l.order)
    (g.W.Write.contents l.fn.out) (g.W.Write.contents l.out) l.telling l.machine)
