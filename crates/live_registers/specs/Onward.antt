-- Where an instruction may go on, as the code says it, and a table of targets for JALR.
use Rattle.std.specs.Prelude.{ℕ, Bool, false, ◌==◌, ◌||◌}
use Rattle.rv_instr.specs.declared.op.Op.{Op}
use Rattle.outcome_laws.specs.Tables.{may_go}
use Rattle.live_registers.specs.declared.onward.Onward.{Onward}
use Rattle.live_registers.specs.declared.onward.Onward.TheVariants as onward

-- An instruction of code that doesn't change, at a pc, goes on at another one: JALR where the table of targets says.
abbrev pub goes : (ℕ → ℕ → Bool) → Op → ℕ → ℕ → Bool
goes targets op pc to = may_go (λ at. false) targets op pc to

abbrev pub goes_on_at : (ℕ → ℕ → Bool) → ℕ → Onward → ℕ → Bool
goes_on_at targets pc onward.Nowhere to = false
goes_on_at targets pc (onward.At a) to = to == a
goes_on_at targets pc (onward.AtEither a b) to = to == a || to == b
goes_on_at targets pc onward.AsListed to = targets pc to
