use Rattle.plain_commands.proofs.OfShownStates.{how_told}
use Rattle.plain_commands.proofs.told_states.tell_shown.Goals as goal

pub returns-in-Ok-state_text-clause-told : goal.returns-in-Ok-state_text-clause-told
returns-in-Ok-state_text-clause-told c =
    how_told c.args.settings.now c.args.image.now c.args.test.now c.args.command.now c.args.outcomes.now.listed
    c.in-Ok.found c.in-Some.shortest c.in-Ok-state_text.text.items c.in-Some.is c.in-Ok.ensures.shortest
    c.in-Ok-state_text.ensures.shown
