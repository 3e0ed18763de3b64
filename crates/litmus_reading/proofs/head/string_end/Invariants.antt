use Rattle.std.proofs.Common.{◌+◌}
use Rattle.litmus_reading.specs.Heads.{LacksByte}
use Rattle.litmus_reading.proofs.head.string_end.Given as goal

-- no quotation mark so far
abbrev pub invariant-loop-at : goal.invariant-loop-at
invariant-loop-at l = LacksByte l.text 34 (l.from + 1) l.at
