use Rattle.address_labels.specs.Labels.{marks_of}
use Rattle.core_commands.specs.Wanted.{wants_of}
use Rattle.core_commands.proofs.OfRun.{tells}
use Rattle.core_commands.proofs.run.perform_run.Goals as goal

pub returns-in-Ok-clause-ended : goal.returns-in-Ok-clause-ended
returns-in-Ok-clause-ended g c =
    let did = c.in_ok-unlocked.ensures in
    let account = c.in-Ok.ensures in
    let reported = rw c.idle_of-idle.ensures at account.reported in
    tells c.args.settings.now c.args.image.now (wants_of c.args.wanted) (marks_of c.args.labels.now)
    c.in_ok-unlocked.unlocked.finished.core c.in_ok-unlocked.unlocked.finished.idle _ _ _ _ c.in-Ok.status
    did.accepted did.manned did.ran.setup did.ran.limit did.ran.shown account.traced reported
    c.in_ok-unlocked.unlocked.counted
