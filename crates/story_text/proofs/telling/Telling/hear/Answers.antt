use Rattle.std.proofs.Common.{◌∙◌, refl, sym}
use Rattle.story_text.proofs.Noting.{noted, noted_bare, one_row}
use Rattle.story_text.proofs.telling.Telling.hear.Goals as goal

pub returns-in-Some : goal.returns-in-Some
returns-in-Some c = λ past few has.
    noted c.args.all past c.args.step.now c.args.self.now _ c.in-Some.row has
    (sym c.has_row.ensures ∙ c.if-not-has_row.false)
    (one_row c.args.all past c.args.self.now _ has few c.saturating_add-self-2.ensures)
    refl (sym c.row_of.ensures ∙ c.in-Some.is) c.hear.ensures c.hear-in-Some.ensures

pub returns-in_default : goal.returns-in_default
returns-in_default c = λ past few has.
    noted_bare c.args.all past c.args.step.now c.args.self.now _ has
    (sym c.has_row.ensures ∙ c.if-not-has_row.false)
    (one_row c.args.all past c.args.self.now _ has few c.saturating_add-self-2.ensures)
    refl (sym c.row_of.ensures ∙ c.in_default.is) refl refl
