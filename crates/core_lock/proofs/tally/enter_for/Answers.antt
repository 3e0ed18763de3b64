use Rattle.std.proofs.Common.{◌∙◌, arith}
use Rattle.core_lock.proofs.Tallying.{entered_for, left_out}
use Rattle.core_lock.proofs.tally.enter_for.Goals as goal

pub returns-then-actor-lt-MOST_ACTORS : goal.returns-then-actor-lt-MOST_ACTORS
returns-then-actor-lt-MOST_ACTORS c = λ past events event at own are.
    entered_for past events c.args.made.now event c.args.place c.from-actor.result _ at (c.from-actor.ensures ∙ own)
    (omega (arith, c.if-actor-lt-MOST_ACTORS.true, c.if-actor-lt-MOST_ACTORS.array_long)) are

pub returns-else-actor-lt-MOST_ACTORS : goal.returns-else-actor-lt-MOST_ACTORS
returns-else-actor-lt-MOST_ACTORS c = λ past events event at own are.
    left_out past events c.args.made.now event c.from-actor.result (c.from-actor.ensures ∙ own)
    (omega (arith, c.if-actor-lt-MOST_ACTORS.false, c.if-actor-lt-MOST_ACTORS.array_long)) are
