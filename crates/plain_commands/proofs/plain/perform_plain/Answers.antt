use Rattle.address_labels.specs.Labels.{marks_of}
use Rattle.std.specs.Prelude.{option_map, is_some}
use Rattle.std.proofs.lemmas.Result.{IfOk-weaker, IfErr-weaker}
use Rattle.story_text.specs.Text.{plan_of}
use Rattle.story_pictures.specs.Form.{plan_of as drawn_plan_of}
use Rattle.plain_commands.specs.Outcomes.{HasPutText}
use Rattle.plain_commands.proofs.OfPlain.{comes_to, picture_put, put_refused, run_refused, told_refused, words_refused}
use Rattle.plain_commands.proofs.plain.perform_plain.Goals as goal

pub returns-in-Err-clause-refused : goal.returns-in-Err-clause-refused
returns-in-Err-clause-refused g c =
    words_refused c.args.settings.now c.args.image.now c.args.order.now (is_some c.args.picture.now) c.in-Err.refused
    c.in-Err.ensures.refused

pub returns-in-Err-run_image-clause-refused : goal.returns-in-Err-run_image-clause-refused
returns-in-Err-run_image-clause-refused g c =
    run_refused c.args.settings.now c.args.image.now c.args.order.now c.as_slice-list.result.now
    (is_some c.args.picture.now)
    (rw (c.as_slice-list.ensures.value) c.in-Ok.ensures.order) c.in-Err-run_image.refused
    c.in-Err-run_image.ensures.refused

pub returns-in-Err-put_picture-clause-refused : goal.returns-in-Err-put_picture-clause-refused
returns-in-Err-put_picture-clause-refused g c =
    put_refused c.args.settings.now c.args.image.now c.args.order.now c.as_slice-list.result.now
    (is_some c.args.picture.now)
    (rw (c.as_slice-list.ensures.value) c.in-Ok.ensures.order) c.in-Err-put_picture.refused
    c.in-Err-put_picture.ensures.refused

pub returns-clause-refused : goal.returns-clause-refused
returns-clause-refused g c =
    IfErr-weaker c.report_order.result _ _
    (told_refused c.args.settings.now c.args.image.now c.args.order.now c.as_slice-list.result.now
    (is_some c.args.picture.now)
    (rw (c.as_slice-list.ensures.value) c.in-Ok.ensures.order)) c.report_order.ensures.refused

pub returns-clause-ended : goal.returns-clause-ended
returns-clause-ended g c =
    let put = picture_put g.S.Sink.written g.S.Sink.has_failed _ _ c.args.settings.now c.args.image.now _
    (option_map drawn_plan_of c.args.picture.now) c.in-Ok-put_picture.ensures.put in
    IfOk-weaker c.report_order.result _ _
    (comes_to c.args.settings.now c.args.image.now c.args.order.now (option_map plan_of c.args.story.now)
    (option_map drawn_plan_of c.args.picture.now) c.args.records (marks_of c.args.labels.now)
    (HasPutText g.S.Sink.written g.S.Sink.has_failed _ _) _ _ _ _ _ _
    c.in-Ok.ensures.order c.as_slice-list.ensures.value c.in-Ok-run_image.ensures.ran put.1 put.2)
    c.report_order.ensures.reported
