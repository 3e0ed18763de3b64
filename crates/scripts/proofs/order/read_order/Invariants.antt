use Rattle.std.proofs.Common.{length}
use Rattle.scripts.specs.Order.{SpellsHart}
use Rattle.scripts.proofs.Reading.{IsRead}
use Rattle.scripts.proofs.order.read_order.Given as goal

abbrev pub invariant-loop-piece : goal.invariant-loop-piece
invariant-loop-piece l = IsRead SpellsHart l.bytes l.text l.harts.items

abbrev pub decreases-loop-piece : goal.decreases-loop-piece
decreases-loop-piece l = length l.text
