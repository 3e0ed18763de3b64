use Rattle.std.proofs.Common.{arith, rules}
use Rattle.plain_commands.proofs.OfShownStates.{from_none, from_some}
use Rattle.plain_commands.proofs.shown_states.shorter.Goals as goal

pub returns-in-None-clause-shorter : goal.returns-in-None-clause-shorter
returns-in-None-clause-shorter c =
    from_none c.args.test.now c.args.outcomes.now.listed c.args.index c.args.shortest c.in-Ok.steps c.is_shown.result
    c.requires.within c.is_shown.ensures (search rules) c.in-Ok.ensures.steps c.in-None.is

pub returns-then-steps-before-clause-shorter : goal.returns-then-steps-before-clause-shorter
returns-then-steps-before-clause-shorter c =
    from_some c.args.test.now c.args.outcomes.now.listed c.args.index c.args.shortest c.in-Ok.steps c.is_shown.result
    c.requires.within c.is_shown.ensures (search rules) c.in-Ok.ensures.steps c.in-Some.before c.in-Some.is
    (omega (arith, c.if-steps-before.true))
