use Rattle.std.specs.Prelude.{[], Err}
use Rattle.std.proofs.Common.{ap, ◌∙◌}
use Rattle.std.proofs.lemmas.Result.{IfErr-weaker}
use Rattle.address_labels.specs.Labels.{marks_of}
use Rattle.core_commands.specs.Wanted.{wants_of}
use Rattle.core_commands.proofs.OfAnswer.{with_both}
use Rattle.core_commands.proofs.OfStep.{report_refusal}
use Rattle.core_commands.proofs.OfPrompt.{accepted_all, refused_all, empty_asks, prompt_comes_to}
use Rattle.core_commands.proofs.prompt.perform_prompt.Goals as goal

pub returns-in-Err-Config-clause-refused : goal.returns-in-Err-Config-clause-refused
returns-in-Err-Config-clause-refused g c =
    refused_all c.args.settings.now c.args.image.now
    (c.prompt.ensures.refused (c.in-Err-Config.is ∙ ap Err c.in-Err-Config.field-0-is))

pub returns-in-Err-Output-clause-refused : goal.returns-in-Err-Output-clause-refused
returns-in-Err-Output-clause-refused g c = (
  accepted_all c.args.settings.now c.args.image.now
      (c.prompt.ensures.unwritten (c.in-Err-Output.is ∙ ap Err c.in-Err-Output.field-0-is)),
  empty_asks,
)

pub returns : goal.returns
returns g c =
    let came = c.in-Ok.ensures in
    let account = c.write_account.ensures in
    let answer = c.write_account.result in
    let reported = rw c.idle_of-idle.ensures at account.reported in
    let accepted = accepted_all c.args.settings.now c.args.image.now came.accepted in
    record {
      refused =
          IfErr-weaker answer _ _
          (λ reason is. report_refusal c.args.settings.now [] reason accepted empty_asks is) account.refused;
      ended =
          with_both answer _ _ _ account.traced reported
          (λ traced status reported. prompt_comes_to g.P.Predict.predicts c.args.context.now.predict c.args.settings.now
          c.args.why (g.B.Read.remaining c.args.reader.now) (wants_of c.args.wanted)
          (marks_of c.args.labels.now) _ c.args.image.now c.in-Ok.prompted.ended
          c.in-Ok.prompted.core c.in-Ok.prompted.idle _ _ _ status accepted came.prompted traced reported);
      unwanted = account.unwanted;
      unbroken = account.unbroken;
      finished = account.finished;
    }
