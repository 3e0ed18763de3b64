use Rattle.std.proofs.Common.{refl, subst, ◌∙◌}
use Rattle.std.proofs.lemmas.Result.{IfOk-weaker}
use Rattle.core_state.specs.Setup.{setup_of}
use Rattle.story_text.specs.Text.{plan_of}
use Rattle.story_pictures.specs.Form.{theme_or}
use Rattle.plain_commands.specs.DrawnOrders.{IsPictureOf, picture_plan}
use Rattle.plain_commands.proofs.OfDrawnOrders.{closing_refusal}
use Rattle.plain_commands.proofs.drawn_orders.found_picture.Goals as goal

pub returns-clause-text : goal.returns-clause-text
returns-clause-text c =
    let setup = setup_of c.args.image.now c.args.settings.now.config in
    let drawn = rw c.picture_form-drawn.ensures at c.picture_of.ensures.drawn in
    IfOk-weaker c.picture_of.result _ _
    (λ text has. subst (λ foot. IsPictureOf (picture_plan (plan_of c.args.form.now) foot (theme_or c.args.theme)) setup
    c.args.order.now text.items) (c.as_slice.ensures.value ∙ c.in-Ok.ensures.text setup refl refl) (has setup refl refl)) drawn

pub returns-in-Err-clause-refused : goal.returns-in-Err-clause-refused
returns-in-Err-clause-refused c =
    closing_refusal c.args.image.now c.args.settings.now.config.harts c.args.order.now c.in-Err.refused
    c.in-Err.ensures.refused
