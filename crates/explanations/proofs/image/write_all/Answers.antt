use Rattle.std.proofs.lemmas.Result.{on_ok_weaker}
use Rattle.explanations.proofs.Printed.{image_behind}
use Rattle.explanations.proofs.image.write_all.Goals as goal

pub returns : goal.returns
returns g c =
    on_ok_weaker c.write_names.result
    (λ told. image_behind c.args.file.now c.args.headers.now c.args.image.now c.args.free c.entry.result
    (g.W.Write.contents c.args.out.now) (g.W.Write.contents c.write_image.new.out)
    (g.W.Write.contents c.write_names.new.out) c.entry.ensures.value c.in_ok-write_image.ensures told)
    c.write_names.ensures
