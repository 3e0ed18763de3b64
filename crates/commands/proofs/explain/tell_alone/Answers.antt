-- The line before the image, and then what is said of it.
use Rattle.commands.proofs.OfExplain.{prints_without}
use Rattle.commands.proofs.explain.tell_alone.Goals as goal

pub returns-clause-printed : goal.returns-clause-printed
returns-clause-printed g c =
    prints_without (g.W.Write.contents c.args.out.now) (g.W.Write.contents c.put.new.out)
    (g.W.Write.contents c.tell_image.new.out) _ _ _ c.default.ensures.ram c.in_ok-tell_image.ensures.fails
    c.in_ok-put.ensures.printed c.in_ok-tell_image.ensures.printed
