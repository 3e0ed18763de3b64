use Rattle.std.proofs.Common.{◌∙◌, ap, sym, subst, ◌+◌}
use Rattle.std.specs.Io.KnownBytes.{Appends}
use Rattle.std.proofs.lemmas.Result.{on_ok_weaker}
use Rattle.text_fields.proofs.Appending.{appends_more}
use Rattle.story_text.specs.Text.{plan_of}
use Rattle.story_text.proofs.Noting.{one_row, piece_is}
use Rattle.story_text.proofs.telling.Telling.write_piece.Goals as goal

pub returns : goal.returns
returns g c = λ past has few.
    let plan = plan_of c.args.form.now in
    let more = one_row c.args.form.now.all past c.args.self.now _ has few c.saturating_add-number.ensures in
    let is = piece_is plan past c.args.step.now c.args.self.now.unseen c.saturating_add-number.result c.note_for.result
    (sym c.has_row.ensures ∙ c.if-not-has_row.false) has.unseen_are (more ∙ ap (λ n. n + 1) has.rows_are)
    (c.note_for.ensures c.args.form.now.all past has) in
    on_ok_weaker c.write_line.result
    (λ told. subst (Appends (g.W.Write.contents c.args.out.now) (g.W.Write.contents c.write_line.new.out)) is
    (appends_more _ _ _ _ _ c.in_ok-write_unseen.ensures told)) c.write_line.ensures
