use Rattle.std.proofs.Common.{◌≡◌, ◌≤◌, ◌++◌}
use Rattle.symbols.specs.Tables.{table_of}
use Rattle.plain_run.specs.Orders.{OfEachSetup}
use Rattle.plain_commands.proofs.OfWrittenStories.{waits_below}
use Rattle.plain_commands.proofs.written_stories.write_waits.Given as goal

-- the lines of the harts so far are written
abbrev pub invariant-loop-hart : goal.invariant-loop-hart
invariant-loop-hart l = OfEachSetup l.image l.harts
    (λ setup. l.text.items ≡ l.fn.text.items ++ waits_below (table_of l.names) setup l.order l.hart)
    × (l.hart ≤ l.harts)
