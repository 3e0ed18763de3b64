use Rattle.std.proofs.Common.{Some, ◌∙◌, arith, rules}
use Rattle.smt_model.specs.Reservations.{reservation_after_write}
use Rattle.shared_memory.proofs.Ending.{one_more}
use Rattle.std.proofs.lemmas.Grind.{common_steps}
use Rattle.shared_memory.proofs.reservations.end_below.Goals as goal

pub loop-hart-preserved : goal.loop-hart-preserved
loop-hart-preserved c = (
  c.end_of_hart.ensures.length ∙ c.loop-hart.invariant.0,
  λ w h same. one_more (reservation_after_write (Some w)) h c.loop-hart.hart _ _ _
      (c.end_of_hart.ensures.held w h same) (c.loop-hart.invariant.1 w h same),
)

pub returns : goal.returns
returns c = first_of (search rules, grind (arith, common_steps))
