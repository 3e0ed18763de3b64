use Rattle.std.proofs.Common.{flat_map}
use Rattle.std.specs.Io.KnownBytes.{Appends}
use Rattle.smt_model.specs.Basics.{below}
use Rattle.reports.specs.Tables.{register_line}
use Rattle.reports.proofs.tables.write_registers_below.Given as goal

-- those so far are written
abbrev pub invariant-loop-register : goal.invariant-loop-register
invariant-loop-register g l =
    Appends (g.W.Write.contents l.fn.out) (g.W.Write.contents l.out) (flat_map (register_line l.registers l.free l.values) (below l.register))
