use Rattle.std.proofs.Common.{flat_map}
use Rattle.std.specs.Io.KnownBytes.{Appends}
use Rattle.smt_model.specs.Basics.{below}
use Rattle.reports.specs.Tables.{hart_at}
use Rattle.reports.proofs.tables.write_harts.Given as goal

-- those so far are written
abbrev pub invariant-loop-hart : goal.invariant-loop-hart
invariant-loop-hart g l =
    Appends (g.W.Write.contents l.fn.out) (g.W.Write.contents l.out) (flat_map (hart_at l.parts) (below l.hart))
