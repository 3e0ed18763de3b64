use Rattle.std.proofs.Common.{take, flat_map}
use Rattle.std.specs.Io.KnownBytes.{Appends}
use Rattle.explanations.specs.ConfigText.{lacking_text}
use Rattle.explanations.proofs.settings_text.write_lacking.Given as goal

-- the lines of the roles so far are written
abbrev pub invariant-loop-role : goal.invariant-loop-role
invariant-loop-role g l = Appends (g.W.Write.contents l.fn.out) (g.W.Write.contents l.out)
    (flat_map (lacking_text l.roles) (take l.role-index l.role-items))
