use Rattle.std.proofs.Common.{◌∙◌}
use Rattle.std.proofs.lemmas.Result.{IfErr-weaker}
use Rattle.address_labels.specs.Labels.{marks_of}
use Rattle.core_commands.specs.Wanted.{wants_of}
use Rattle.core_commands.proofs.OfAnswer.{with_both}
use Rattle.core_commands.proofs.OfStep.{report_refusal, comes_to, unreported}
use Rattle.core_commands.proofs.step.perform_step.Goals as goal

pub returns : goal.returns
returns g c =
    let asked = c.in_ok-finished.ensures in
    let account = c.write_account.ensures in
    let answer = c.write_account.result in
    let reported = rw c.idle_of-idle.ensures at account.reported in
    let traced = rw asked.unwritten at account.traced in
    record {
      refused =
          IfErr-weaker answer _ _
          (λ reason is. report_refusal c.args.settings.now c.args.script.now reason asked.accepted asked.script is)
          account.refused;
      ended =
          with_both answer _ _ _ traced reported
          (λ traced status reported. comes_to c.args.settings.now c.args.image.now c.args.script.now c.args.why
          (wants_of c.args.wanted) (marks_of c.args.labels.now) c.in_ok-finished.finished.core
          c.in_ok-finished.finished.idle _ _ _ _ status
          asked.accepted asked.script asked.setup asked.limit asked.shown asked.printed traced reported);
      unwanted = λ none. account.unwanted none ∙ asked.unwritten;
      unbroken = account.unbroken;
      finished = account.finished;
      unreported = λ failed.
          unreported c.args.why (marks_of c.args.labels.now) c.args.script.now c.in_ok-finished.finished.core
          c.in_ok-finished.finished.idle _ _ _ asked.printed
          (account.unreported failed);
    }
