use Rattle.plain_commands.proofs.OfSuite.{compared_so}
use Rattle.plain_commands.proofs.telling.LineTelling.tell.Goals as goal

pub returns-in-Ok-meet-clause-told : goal.returns-in-Ok-meet-clause-told
returns-in-Ok-meet-clause-told g c =
    compared_so c.args.line.now c.args.self.now c.note.new.self c.in-Comparison.expected c.meet.new.self
    c.in-Comparison.field-1 c.in-Ok-meet.met (g.W.Write.contents c.args.out.now) (g.W.Write.contents c.meet.new.out)
    c.in-Comparison.is c.note.ensures c.meet.ensures.taken c.in-Ok-meet.ensures.met c.in-Ok-meet.ensures.written
