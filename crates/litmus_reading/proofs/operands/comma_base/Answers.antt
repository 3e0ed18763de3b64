use Rattle.std.proofs.Common.{pos, sym, subst}
use Rattle.litmus_reading.specs.Instructions.{SpellsAddress}
use Rattle.litmus_reading.proofs.Chains.{behind_one}
use Rattle.litmus_reading.proofs.operands.comma_base.Goals as goal

pub returns-in_err-offset-clause-only : goal.returns-in_err-offset-clause-only
returns-in_err-offset-clause-only c = λ base it.
    absurd (c.in_err-offset.ensures.only (pos 0) base (subst (λ text. SpellsAddress text (pos 0) base)
    (sym (behind_one _ _ _ _ _ c.in_ok-rest.ensures.spelled it.spelled)) it.spells))
