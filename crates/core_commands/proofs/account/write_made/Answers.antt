use Rattle.address_labels.specs.Labels.{marks_of}
use Rattle.std.proofs.Common.{sym, ◌∙◌}
use Rattle.core_commands.specs.Wanted.{wants_of}
use Rattle.core_commands.proofs.OfAccount.{reported, looked_is, on_ok_done}
use Rattle.core_commands.proofs.account.write_made.Goals as goal

pub returns-in-Ok-clause-reported : goal.returns-in-Ok-clause-reported
returns-in-Ok-clause-reported g c =
    let account = c.account-account.ensures in
    reported c.args.core.now (wants_of c.args.wanted)
    (marks_of c.args.labels.now) _ _ _ _ _ _ c.args.idle.now account.records account.events account.lent
    account.statuses account.output c.requires.counts _ _ _ _ _ _ _ _ _ _ _ c.in_ok-tell_story.ensures.told
    c.requires.tables c.requires.ends
    c.as_slice.ensures.value
    (on_ok_done c.write_all.result _ (sym c.is_err.ensures.value ∙ c.if-is_err.false) c.write_all.ensures.bytes)
    (looked_is c.args.wanted.looks c.args.core.now c.looks.result _ c.looks.ensures account.records)
    c.in_ok-write_looks.ensures.written
    c.in-Ok.ensures c.as_slice-in-Ok.ensures.value c.status_of.ensures.status
