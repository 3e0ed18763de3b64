use Rattle.std.proofs.Common.{◌≡◌, ap, sym, Err}
use Rattle.smt_model.specs.Setup.{Setup}
use Rattle.history_check.specs.Checking.{IsStoppedAt}
use Rattle.core_commands.specs.Check.{setup_by}
use Rattle.core_commands.proofs.OfTold.{text_told}
use Rattle.core_commands.proofs.why.why_event.Goals as goal

pub returns-in-Err-Event : goal.returns-in-Err-Event
returns-in-Err-Event c =
    let settings = c.args.settings.now in
    let image = c.args.image.now in
    let same = c.config_by-config.ensures image in
    let found = c.in-Err-Event.ensures.stopped _ (ap Err c.in-Err-Event.field-0-is) in
    let stopped : IsStoppedAt (setup_by settings image c.in-Ok.trace.head) c.in-Ok.trace.events c.in-Err-Event.stopped =
    rw (sym c.head.ensures, sym same, sym c.events.ensures) found in
    text_told settings image c.args.trace.now c.in-Ok.trace c.args.index c.args.rule _ c.in-Ok.ensures.trace
    (c.told_event.ensures _ stopped)
