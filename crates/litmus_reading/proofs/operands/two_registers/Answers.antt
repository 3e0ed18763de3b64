use Rattle.litmus_words.specs.declared.word.Token.TheVariants.{Register, Mark}
use Rattle.litmus_words.specs.declared.word.Mark.TheVariants as mark
use Rattle.litmus_reading.proofs.Chains.{behind_one, behind_two, none_of, one_of, two_of}
use Rattle.litmus_reading.proofs.operands.two_registers.Goals as goal

pub returns-in_err-first-clause-only : goal.returns-in_err-first-clause-only
returns-in_err-first-clause-only c = λ first second is.
    absurd (c.in_err-first.ensures.only first _ (one_of c.args.words.now (Register first) _ is).takes)

pub returns-in_err-second-clause-only : goal.returns-in_err-second-clause-only
returns-in_err-second-clause-only c = λ first second is.
    absurd (c.in_err-second.ensures.only second _
    (two_of c.in_ok-first.rest.now (Mark mark.Comma) (Register second) _
    (behind_one _ _ _ _ _ c.in_ok-first.ensures.taken is)).takes)

pub returns-in_err-nothing-clause-only : goal.returns-in_err-nothing-clause-only
returns-in_err-nothing-clause-only c = λ first second is.
    absurd (c.in_err-nothing.ensures.refused (none_of c.in_ok-second.rest.now
    (behind_two _ _ _ _ _ _ _ c.in_ok-second.ensures.spelled
    (behind_one _ _ _ _ _ c.in_ok-first.ensures.taken is))))
