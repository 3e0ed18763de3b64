use Rattle.std.proofs.Common.{subst, sym}
use Rattle.story_text.specs.Text.{plan_of}
use Rattle.plain_commands.specs.Outcomes.{IsWhyOf}
use Rattle.plain_commands.proofs.OfOutcomes.{stays, told_so}
use Rattle.plain_commands.proofs.all_outcomes.tell.Goals as goal

pub returns-in-Err-put_file-clause-unwanted : goal.returns-in-Err-put_file-clause-unwanted
returns-in-Err-put_file-clause-unwanted g c =
    stays _ _ c.args.command.now c.args.watch.now c.args.question.now c.args.outcomes.now _ _
    c.in-Ok-why_told.ensures.picture c.in-Ok.ensures.wanted c.put_file.ensures.unwanted

pub returns-clause-told : goal.returns-clause-told
returns-clause-told g c =
    told_so g.S.Sink.written g.S.Sink.has_failed _ _ c.args.settings.now c.args.image.now c.args.command.now
    (plan_of c.args.form.now) c.args.list.now.items c.args.watch.now c.args.question.now c.args.outcomes.now _ _ _ _ _ _ _ _
    c.in-Ok.ensures.wanted c.in-Ok-line_wanted.ensures.line c.in-Ok-why_told.ensures.picture
    c.in-Ok-how_told.ensures.how
    (subst (IsWhyOf c.args.command.now) (sym c.as_slice.ensures.value) c.in-Ok-why_told.ensures.why)
    c.in-Ok-put_file.ensures.put c.in-Ok-print_found.ensures.printed
    c.in-Ok-print_found.ensures.status
