use Rattle.std.proofs.Common.{◌≡◌, filter}
use Rattle.free_list.specs.Flags.{holds}
use Rattle.smt_model.specs.Basics.{below}
use Rattle.core_parts.proofs.parts.registers_in.Given as goal

abbrev pub invariant-loop-register : goal.invariant-loop-register
invariant-loop-register l = l.registers.items ≡ filter (λ x. holds l.free x) (below l.register)
