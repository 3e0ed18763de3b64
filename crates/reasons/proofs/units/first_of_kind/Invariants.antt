use Rattle.std.proofs.Common.{◌≡◌}
use Rattle.std.specs.Prelude.{drop, find}
use Rattle.rv_instr.specs.Registers.{op_unit}
use Rattle.smt_model.specs.Kinds.{same_unit}
use Rattle.reasons.proofs.units.first_of_kind.Given as goal

abbrev pub invariant-loop-entry : goal.invariant-loop-entry
invariant-loop-entry l =
    find (λ e. same_unit l.kind (op_unit e.op)) (drop l.entry-index l.entries)
    ≡ find (λ e. same_unit l.kind (op_unit e.op)) l.entries
