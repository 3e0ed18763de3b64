use Rattle.std.specs.Prelude.{◌≡◌, option_map, Some}
use Rattle.std.proofs.Common.{ap, sym, ◌∙◌}
use Rattle.std.proofs.lemmas.Result.{IfErr-weaker, on_ok_weaker}
use Rattle.address_labels.specs.Labels.{marks_of}
use Rattle.history_check.specs.Rerun.{IsRetirementOrder}
use Rattle.core_commands.specs.Wanted.{rows_of}
use Rattle.core_commands.proofs.OfCoreStory.{story_is_told, story_refusal}
use Rattle.core_commands.proofs.core_story.tell_story.Goals as goal

pub returns-clause-told : goal.returns-clause-told
returns-clause-told g c =
    let core = c.args.core.now in
    let harts = c.harts-2.ensures in
    let listed : IsRetirementOrder core c.as_slice.result.now = rw c.as_slice.ensures.value c.in-Ok.ensures in
    on_ok_weaker c.tell_image.result
    (λ tells. story_is_told core c.image-image.result.now c.harts-2.result c.as_slice.result.now
    (sym (c.image-image.ensures ∙ c.memory.ensures.image)) (sym harts.harts) harts.some harts.few listed
    (option_map rows_of c.args.story.now) (rows_of c.in-Some.story) (marks_of c.args.labels.now) c.harts.result _ _
    (ap (option_map rows_of) c.in-Some.is) c.harts.ensures.harts tells)
    c.tell_image.ensures.told

pub returns-clause-refused : goal.returns-clause-refused
returns-clause-refused g c =
    let core = c.args.core.now in
    let harts = c.harts-2.ensures in
    let listed : IsRetirementOrder core c.as_slice.result.now = rw c.as_slice.ensures.value c.in-Ok.ensures in
    IfErr-weaker c.tell_image.result _ _
    (λ reason is. story_refusal core c.image-image.result.now c.harts-2.result c.as_slice.result.now
    (sym (c.image-image.ensures ∙ c.memory.ensures.image)) (sym harts.harts) harts.some harts.few listed reason is)
    c.tell_image.ensures.refused
