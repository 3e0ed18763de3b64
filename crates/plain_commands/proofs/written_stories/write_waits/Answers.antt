use Rattle.std.proofs.Common.{arith}
use Rattle.symbols.specs.Tables.{table_of}
use Rattle.plain_commands.proofs.OfWrittenStories.{all_waited, one_waited}
use Rattle.plain_commands.proofs.written_stories.write_waits.Goals as goal

pub loop-hart-preserved : goal.loop-hart-preserved
loop-hart-preserved c = (
  one_waited (table_of c.args.names.now) c.args.image.now c.args.harts c.loop-hart.hart c.args.order.now
      c.args.text.now.items c.loop-hart.text.items c.write_wait.new.text.items c.loop-hart.invariant.0
      c.in-Ok.ensures.written,
  omega arith,
)

pub returns-clause-written : goal.returns-clause-written
returns-clause-written c =
    all_waited (table_of c.args.names.now) c.args.image.now c.args.harts c.loop-hart.hart c.args.order.now
    c.args.text.now.items c.loop-hart.text.items (omega (arith, c.loop-hart.invariant.1)) c.loop-hart.invariant.0
