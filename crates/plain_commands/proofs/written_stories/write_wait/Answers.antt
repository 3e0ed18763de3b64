use Rattle.symbols.specs.Tables.{table_of}
use Rattle.plain_commands.proofs.OfWrittenStories.{waited}
use Rattle.plain_commands.proofs.written_stories.write_wait.Goals as goal

pub returns-in-Ok-tell_spin-clause-written : goal.returns-in-Ok-tell_spin-clause-written
returns-in-Ok-tell_spin-clause-written c =
    waited (table_of c.args.names.now) c.args.image.now c.args.harts c.args.hart c.args.order.now c.in-Ok.machine
    c.args.text.now.items c.tell_spin.new.out.items c.requires c.in-Ok.ensures.stands c.in-Ok-tell_spin.ensures
