use Rattle.std.proofs.Common.{◌++◌}
use Rattle.std.specs.Prelude.{codes}
use Rattle.std.specs.{Fmt.decimal}
use Rattle.std.proofs.lemmas.Result.{on_ok_weaker}
use Rattle.text_fields.proofs.Appending.{appends_more}
use Rattle.story_pictures.proofs.notes.write_lost_update.Goals as goal

pub returns : goal.returns
returns g c =
    let old = g.W.Write.contents c.args.out.now in
    let first = g.W.Write.contents c.write_all.new.self in
    let second = g.W.Write.contents c.write_number.new.out in
    let third = g.W.Write.contents c.write_all-2.new.self in
    let new = g.W.Write.contents c.write_number-2.new.out in
    let write = decimal c.args.write.now.number in
    let read = decimal c.args.read.now.number in
    on_ok_weaker c.write_number-2.result
    (λ last. appends_more old first new (codes "lost update: row ") (write ++ (codes " wrote since row " ++ read))
    c.in_ok-write_all.ensures.bytes
    (appends_more first second new write (codes " wrote since row " ++ read) c.in_ok-write_number.ensures
    (appends_more second third new (codes " wrote since row ") read c.in_ok-write_all-2.ensures.bytes last)))
    c.write_number-2.ensures
