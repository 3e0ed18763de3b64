use Rattle.std.proofs.Common.{drop}
use Rattle.litmus_reading.specs.Texts.{AreHeads}
use Rattle.litmus_reading.proofs.rows.read_harts.Given as goal

-- all are heads if the rest are
abbrev pub invariant-loop-place : goal.invariant-loop-place
invariant-loop-place l = AreHeads l.place (drop l.place l.row) → AreHeads 0 l.row
