use Rattle.std.proofs.Common.{subst}
use Rattle.std.specs.{Result.OnOk, Io.KnownBytes.Appends}
use Rattle.std.proofs.lemmas.List.{take-replicate}
use Rattle.story_text.proofs.fields.write_blanks.Goals as goal

pub returns : goal.returns
returns g c =
    subst (λ text. OnOk c.write_all.result (Appends (g.W.Write.contents c.args.out.now)
    (g.W.Write.contents c.write_all.new.self) text))
    (take-replicate c.args.count 128 32 c.requires) c.write_all.ensures.bytes
