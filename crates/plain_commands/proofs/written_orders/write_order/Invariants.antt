use Rattle.std.proofs.Common.{take}
use Rattle.std.specs.Io.KnownBytes.{Appends}
use Rattle.stress_runs.specs.Kept.{order_text}
use Rattle.plain_commands.proofs.written_orders.write_order.Given as goal

-- the lines of the harts so far are written
abbrev pub invariant-loop-hart : goal.invariant-loop-hart
invariant-loop-hart g l =
    Appends (g.W.Write.contents l.fn.out) (g.W.Write.contents l.out) (order_text (take l.hart-index l.order))
