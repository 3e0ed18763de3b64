use Rattle.std.proofs.Common.{[]}
use Rattle.litmus_words.specs.declared.word.Token.TheVariants.{Register}
use Rattle.litmus_reading.proofs.Chains.{address_alone, behind_one, one_of}
use Rattle.litmus_reading.proofs.instruction.load_address.Goals as goal

pub returns-in_err-register-clause-only : goal.returns-in_err-register-clause-only
returns-in_err-register-clause-only c = λ register value it.
    absurd (c.in_err-register.ensures.only register _
    (one_of c.args.operands.now (Register register) _ it.spelled).takes)

pub returns-in_err-byte-clause-only : goal.returns-in_err-byte-clause-only
returns-in_err-byte-clause-only c = λ register value it.
    absurd (c.in_err-byte.ensures.only it.byte [] (address_alone c.in_ok-rest.rest.now it.address it.byte it.spells
    (behind_one _ _ _ _ _ c.in_ok-rest.ensures.spelled
    (behind_one _ _ _ _ _ c.in_ok-register.ensures.taken it.spelled))) tt tt)

pub returns-in_err-nothing-clause-only : goal.returns-in_err-nothing-clause-only
returns-in_err-nothing-clause-only c = λ register value it.
    absurd (c.in_err-nothing.ensures.refused (c.in_ok-byte.ensures.only it.byte []
    (address_alone c.in_ok-rest.rest.now it.address it.byte it.spells
    (behind_one _ _ _ _ _ c.in_ok-rest.ensures.spelled
    (behind_one _ _ _ _ _ c.in_ok-register.ensures.taken it.spelled))) tt tt).1)
