use Rattle.std.proofs.Common.{◌≡◌, ◌++◌, subst, sym}
use Rattle.event_text.specs.Heads.{ended}
use Rattle.event_text.proofs.ConfigLaws.{config_only}
use Rattle.event_text.proofs.trace.reading.read_core.Goals as goal

pub returns-in-Ok-clause-read : goal.returns-in-Ok-clause-read
returns-in-Ok-clause-read c =
    subst (λ line. c.args.text.now ≡ ended line ++ c.in-Some.behind.now)
    (config_only c.in-Some.line.now c.in-Ok.header (sym c.in-Ok.ensures.value)).1 c.in-Some.ensures.parts
