use Rattle.litmus_words.specs.declared.word.Token.TheVariants.{Register, Mark}
use Rattle.litmus_words.specs.declared.word.Mark.TheVariants as mark
use Rattle.litmus_reading.proofs.Chains.{behind_one, none_of, one_of}
use Rattle.litmus_reading.proofs.operands.address.Goals as goal

pub returns-in_err-offset-clause-only : goal.returns-in_err-offset-clause-only
returns-in_err-offset-clause-only c = λ offset base it.
    absurd (c.in_err-offset.ensures.only offset base it)

pub returns-in_err-rest-clause-only : goal.returns-in_err-rest-clause-only
returns-in_err-rest-clause-only c = λ offset base it.
    absurd (c.in_err-rest.ensures.only _
    (one_of c.in_ok-offset.rest.now (Mark mark.LeftParenthesis) _ (c.in_ok-offset.ensures.only offset base it).1).takes)

pub returns-in_err-base-clause-only : goal.returns-in_err-base-clause-only
returns-in_err-base-clause-only c = λ offset base it.
    absurd (c.in_err-base.ensures.only base _ (one_of c.in_ok-rest.rest.now (Register base) _
    (behind_one _ _ _ _ _ c.in_ok-rest.ensures.spelled (c.in_ok-offset.ensures.only offset base it).1)).takes)

pub returns-in_err-nothing-clause-only : goal.returns-in_err-nothing-clause-only
returns-in_err-nothing-clause-only c = λ offset base it.
    absurd (c.in_err-nothing.ensures.refused (none_of c.in_ok-rest-2.rest.now
    (behind_one _ _ _ _ _ c.in_ok-rest-2.ensures.spelled (behind_one _ _ _ _ _ c.in_ok-base.ensures.taken
    (behind_one _ _ _ _ _ c.in_ok-rest.ensures.spelled (c.in_ok-offset.ensures.only offset base it).1)))))
