use Rattle.std.proofs.Common.{◌++◌}
use Rattle.std.specs.Prelude.{codes}
use Rattle.std.specs.{Fmt.decimal}
use Rattle.std.proofs.lemmas.Result.{on_ok_weaker}
use Rattle.text_fields.proofs.Appending.{appends_more}
use Rattle.story_text.specs.Deeds.{row_text}
use Rattle.story_text.proofs.deeds.write_lost_update.Goals as goal

pub returns : goal.returns
returns g c =
    let old = g.W.Write.contents c.args.out.now in
    let first = g.W.Write.contents c.write_all.new.self in
    let second = g.W.Write.contents c.write_row.new.out in
    let third = g.W.Write.contents c.write_all-2.new.self in
    let last = g.W.Write.contents c.write_number.new.out in
    let row = row_text c.args.write.now in
    let between = codes " came after the read at row " in
    let number = decimal c.args.read.now.number in
    on_ok_weaker c.write_number.result
    (λ told. appends_more old first last (codes ", lost update: ") (row ++ (between ++ number))
    c.in_ok-write_all.ensures.bytes
    (appends_more first second last row (between ++ number) c.in_ok-write_row.ensures
    (appends_more second third last between number c.in_ok-write_all-2.ensures.bytes told))) c.write_number.ensures
