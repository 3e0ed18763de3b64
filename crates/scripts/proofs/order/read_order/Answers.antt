use Rattle.std.proofs.Common.{arith}
use Rattle.scripts.specs.Order.{SpellsHart}
use Rattle.scripts.proofs.Reading.{read_more, no_hart}
use Rattle.scripts.proofs.order.read_order.Goals as goal

pub returns-in_default-read_hart-clause-refused : goal.returns-in_default-read_hart-clause-refused
returns-in_default-read_hart-clause-refused c =
    no_hart _ _ _ _ _ _ c.loop-piece.invariant c.in-Some.ensures.found
    (omega arith) c.in_default-read_hart.ensures.only

pub loop-piece-preserved : goal.loop-piece-preserved
loop-piece-preserved c =
    rw c.in_ok-push.ensures.items
    (read_more SpellsHart _ _ _ _ _ _ c.loop-piece.invariant c.in-Some.ensures.found
    c.in-Some-read_hart.ensures.found)
