use Rattle.litmus_reading.proofs.Chains.{none_of}
use Rattle.litmus_reading.proofs.fences.total_store_order_fence.Goals as goal

pub returns-in_err-nothing-clause-only : goal.returns-in_err-nothing-clause-only
returns-in_err-nothing-clause-only c = λ none.
    absurd (c.in_err-nothing.ensures.refused (none_of c.args.operands.now none))
