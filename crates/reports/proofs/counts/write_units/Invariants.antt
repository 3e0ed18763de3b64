use Rattle.std.proofs.Common.{flat_map}
use Rattle.std.specs.Io.KnownBytes.{Appends}
use Rattle.smt_model.specs.Basics.{below}
use Rattle.reports.specs.Counts.{hart_text}
use Rattle.reports.proofs.counts.write_units.Given as goal

-- the numbers of the harts so far are written
abbrev pub invariant-loop-hart : goal.invariant-loop-hart
invariant-loop-hart g l =
    Appends (g.W.Write.contents l.fn.out) (g.W.Write.contents l.out)
    (flat_map (hart_text l.form l.records) (below l.hart))
