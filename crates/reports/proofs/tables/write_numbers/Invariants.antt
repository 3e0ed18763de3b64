use Rattle.std.proofs.Common.{take, flat_map}
use Rattle.std.specs.Io.KnownBytes.{Appends}
use Rattle.std.specs.Prelude.{codes}
use Rattle.reports.specs.Tables.{number_text}
use Rattle.reports.proofs.tables.write_numbers.Given as goal

-- what was listed so far is written
abbrev pub invariant-loop-register : goal.invariant-loop-register
invariant-loop-register g l =
    Appends (g.W.Write.contents l.fn.out) (g.W.Write.contents l.out) (flat_map (number_text (codes " ")) (take l.register-index l.registers))
