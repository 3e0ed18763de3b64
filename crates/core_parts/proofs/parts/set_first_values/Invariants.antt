-- The registers below this one have their first numbers, and no other place has changed.
use Rattle.std.proofs.Common.{◌≡◌, ℕ, ◌<◌, Option, length}
use Rattle.std.specs.Prelude.{slice_index_or}
use Rattle.numbers.specs.Sizes.{most_registers}
use Rattle.core_parts.specs.First.{first_values_below}
use Rattle.core_parts.proofs.parts.set_first_values.Given as goal

abbrev pub invariant-loop-register : goal.invariant-loop-register
invariant-loop-register l =
    (length l.values ≡ most_registers)
    × ((x : ℕ) (d : Option ℕ) → x < most_registers
    → slice_index_or l.values x d ≡ first_values_below l.register l.harts l.hart x (slice_index_or l.fn.values x d))
