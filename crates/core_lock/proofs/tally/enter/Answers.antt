use Rattle.std.proofs.Common.{◌∙◌, sym}
use Rattle.core_lock.proofs.Tallying.{actor_there}
use Rattle.core_lock.proofs.tally.enter.Goals as goal

pub returns : goal.returns
returns c = λ past event at are.
    c.enter_for.ensures past c.args.history.now.items event at
    (actor_there _ c.in-Some.actor event (sym c.in-Some.is ∙ c.actor_at.ensures) at) are
