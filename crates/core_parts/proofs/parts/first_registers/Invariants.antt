-- The registers of the harts so far have their first numbers.
use Rattle.std.proofs.Common.{◌≡◌, length}
use Rattle.numbers.specs.Sizes.{most_registers}
use Rattle.core_parts.specs.First.{AreFirst}
use Rattle.core_parts.proofs.parts.first_registers.Given as goal

abbrev pub invariant-loop-hart : goal.invariant-loop-hart
invariant-loop-hart l = AreFirst l.harts l.hart l.values × (length l.values ≡ most_registers)
