use Rattle.std.proofs.Common.{◌≡◌, subst, get_or}
use Rattle.core_steps.proofs.Steps.Complete.Member.{in_flight_some, in_flight_none}
use Rattle.core_steps.proofs.complete.in_flight.Goals as goal

pub returns-clause-some : goal.returns-clause-some
returns-clause-some c =
    let x = c.index.result.now in
    let parts = c.args.parts.now in
    in_flight_some c.args.job.now.hart c.args.job.now.seq x parts c.requires
    (subst (λ i. x ≡ get_or parts.harts.items i x) c.from.ensures c.index.ensures) _ c.find_at.ensures

pub returns-clause-none : goal.returns-clause-none
returns-clause-none c =
    let x = c.index.result.now in
    let parts = c.args.parts.now in
    in_flight_none c.args.job.now.hart c.args.job.now.seq x parts c.requires
    (subst (λ i. x ≡ get_or parts.harts.items i x) c.from.ensures c.index.ensures) _ c.find_at.ensures
