-- The harts so far are new.
use Rattle.std.proofs.Common.{◌≡◌, length}
use Rattle.core_parts.specs.First.{AreNew}
use Rattle.core_parts.proofs.parts.first_harts.Given as goal

abbrev pub invariant-loop-hart : goal.invariant-loop-hart
invariant-loop-hart l = (length l.each.items ≡ l.hart) × AreNew l.entry l.each.items
