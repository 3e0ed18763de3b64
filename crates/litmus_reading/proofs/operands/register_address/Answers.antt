use Rattle.litmus_words.specs.declared.word.Token.TheVariants.{Register}
use Rattle.std.proofs.Common.{sym, subst}
use Rattle.litmus_reading.specs.Instructions.{SpellsAddress}
use Rattle.litmus_reading.proofs.Chains.{behind_one, one_of}
use Rattle.litmus_reading.proofs.operands.register_address.Goals as goal

pub returns-in_err-first-clause-only : goal.returns-in_err-first-clause-only
returns-in_err-first-clause-only c = λ first offset base it.
    absurd (c.in_err-first.ensures.only first _ (one_of c.args.words.now (Register first) _ it.spelled).takes)

pub returns-in_err-offset-clause-only : goal.returns-in_err-offset-clause-only
returns-in_err-offset-clause-only c = λ first offset base it.
    absurd (c.in_err-offset.ensures.only offset base (subst (λ text. SpellsAddress text offset base)
    (sym (behind_one _ _ _ _ _ c.in_ok-rest.ensures.spelled
    (behind_one _ _ _ _ _ c.in_ok-first.ensures.taken it.spelled))) it.spells))
