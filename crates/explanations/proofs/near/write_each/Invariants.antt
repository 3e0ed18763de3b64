use Rattle.std.proofs.Common.{take}
use Rattle.std.specs.Io.KnownBytes.{Appends}
use Rattle.text_fields.specs.Each.{each_from}
use Rattle.explanations.specs.ConfigRefusal.{listed}
use Rattle.explanations.proofs.near.write_each.Given as goal

-- the names so far are written
abbrev pub invariant-loop-place : goal.invariant-loop-place
invariant-loop-place g l = Appends (g.W.Write.contents l.fn.out) (g.W.Write.contents l.out)
    (each_from (λ place name. listed place name.now) 0 (take l.place l.names))
