use Rattle.std.proofs.Common.{ℕ, ◌≤◌}
use Rattle.rv_text.specs.Registers.{IsNameOf}
use Rattle.rv_text.proofs.registers.register_named.Given as goal

-- none of the registers so far has the name
abbrev pub invariant-loop-register : goal.invariant-loop-register
invariant-loop-register l = (r : ℕ) → IsNameOf r l.name → l.register ≤ r
