use Rattle.plain_commands.proofs.OfWrittenStories.{came}
use Rattle.plain_commands.proofs.written_stories.machine_behind.Goals as goal

pub returns-in-Ok-run-clause-stands : goal.returns-in-Ok-run-clause-stands
returns-in-Ok-run-clause-stands c =
    came c.args.image.now c.args.harts _ c.args.order.now c.in-Ok.machine c.run.new.self c.in-Ok.ensures.ok
    c.in-Ok-run.ensures.done
