-- The event that is refused makes the whole list no legal history.
use Rattle.history_check.proofs.Broken.{illegal}
use Rattle.history_check.proofs.checking.first_broken.Goals as goal

pub returns-in-Refused-clause-illegal : goal.returns-in-Refused-clause-illegal
returns-in-Refused-clause-illegal c =
    illegal c.args.events.now c.loop-index.index c.in-Refused.rule _ _ c.args.core.now c.loop-index.invariant.0
    c.loop-index-test.true c.in-Refused.ensures.breaks
