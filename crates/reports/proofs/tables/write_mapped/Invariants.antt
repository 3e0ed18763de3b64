use Rattle.std.proofs.Common.{flat_map}
use Rattle.std.specs.Io.KnownBytes.{Appends}
use Rattle.smt_model.specs.Basics.{below}
use Rattle.reports.specs.Tables.{mapped_at}
use Rattle.reports.proofs.tables.write_mapped.Given as goal

-- those so far are written
abbrev pub invariant-loop-index : goal.invariant-loop-index
invariant-loop-index g l =
    Appends (g.W.Write.contents l.fn.out) (g.W.Write.contents l.out) (flat_map (mapped_at l.maps) (below l.index))
