use Rattle.std.proofs.Common.{arith, tests}
use Rattle.litmus_reading.proofs.Chains.{sets_of}
use Rattle.litmus_reading.proofs.fences.read_fence.Goals as goal

pub returns-in_err-before-clause-only : goal.returns-in_err-before-clause-only
returns-in_err-before-clause-only c = λ before after it.
    absurd (c.in_err-before.ensures.only before after
    (sets_of c.args.text.now c.args.operands.now before after
    (λ none. grind (arith, tests, c.if-is_empty.false, c.is_empty.ensures, none)) it))
