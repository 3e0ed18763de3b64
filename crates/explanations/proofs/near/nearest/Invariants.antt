use Rattle.std.proofs.Common.{map}
use Rattle.explanations.proofs.Nearest.{IsNearestOf}
use Rattle.explanations.proofs.near.nearest.Given as goal

-- of the names so far the nearest was found
abbrev pub invariant-loop-place : goal.invariant-loop-place
invariant-loop-place l = IsNearestOf l.text (map (λ name. name.now) l.names) l.place l.least l.nearest
