use Rattle.std.proofs.Common.{refl, arith}
use Rattle.scripts.proofs.{Parts.apart, Parts.same_value, Parts.has_byte, Spellings.actor_and_hart}
use Rattle.scripts.proofs.fields.read_actor_and_hart.Goals as goal

pub returns-in_err-actor-clause-only : goal.returns-in_err-actor-clause-only
returns-in_err-actor-clause-only c = λ actor hart small few e. absurd (has_byte 46 _ _ _ e c.in_err-actor.ensures.none)

pub returns-in_err-read_actor-clause-only : goal.returns-in_err-read_actor-clause-only
returns-in_err-read_actor-clause-only c = λ actor hart small few e.
    let parts = actor_and_hart _ _ _ actor hart small c.in_ok-actor.ensures.found c.in_ok-actor.ensures.first e in
    apart actor (c.in_err-read_actor.ensures.only actor small parts.0)

pub returns-in_err-read_number-clause-only : goal.returns-in_err-read_number-clause-only
returns-in_err-read_number-clause-only c = λ actor hart small few e.
    let parts = actor_and_hart _ _ _ actor hart small c.in_ok-actor.ensures.found c.in_ok-actor.ensures.first e in
    apart hart (c.in_err-read_number.ensures.only hart (omega (arith, few)) parts.1)

pub returns-clause-only : goal.returns-clause-only
returns-clause-only c = λ actor hart small few e.
    let parts = actor_and_hart _ _ _ actor hart small c.in_ok-actor.ensures.found c.in_ok-actor.ensures.first e in
    rw (
      same_value _ actor (c.in_ok-read_actor.ensures.only actor small parts.0),
      same_value _ hart (c.in_ok-read_number.ensures.only hart (omega (arith, few)) parts.1),
    ) refl
