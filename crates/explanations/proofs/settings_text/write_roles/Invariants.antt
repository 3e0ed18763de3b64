use Rattle.std.proofs.Common.{take}
use Rattle.std.specs.Io.KnownBytes.{Appends}
use Rattle.text_fields.specs.Each.{each_from}
use Rattle.explanations.specs.ConfigText.{actor_line}
use Rattle.explanations.proofs.settings_text.write_roles.Given as goal

-- the lines of the actors so far are written
abbrev pub invariant-loop-actor : goal.invariant-loop-actor
invariant-loop-actor g l =
    Appends (g.W.Write.contents l.fn.out) (g.W.Write.contents l.out) (each_from actor_line 0 (take l.actor l.roles))
