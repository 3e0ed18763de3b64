use Rattle.std.proofs.Common.{◌∙◌, subst, sym}
use Rattle.std.proofs.lemmas.Result.{IfErr-weaker, IfOk-weaker}
use mathlib.Core.Logic.{inl, inr}
use Rattle.address_labels.specs.Labels.{marks_of}
use Rattle.core_commands.specs.Account.{IsReported}
use Rattle.core_commands.specs.Wanted.{wants_of}
use Rattle.core_commands.proofs.OfCheck.{report_refusal, comes_to, report_untold}
use Rattle.core_commands.proofs.check.perform_check.Goals as goal

pub returns-clause-refused : goal.returns-clause-refused
returns-clause-refused g c =
    let judged = c.in-Ok.ensures.accepted in
    IfErr-weaker c.report_core.result _ _
    (λ reason is. inr (report_refusal c.args.settings.now c.args.image.now c.args.trace.now judged.trace _ reason
    judged.is_trace judged.whole judged.accepted judged.shown is))
    c.report_core.ensures.refused

pub returns-clause-told : goal.returns-clause-told
returns-clause-told g c =
    IfErr-weaker c.report_core.result _ _ (λ reason is why of. absurd (report_untold reason is of))
    c.report_core.ensures.refused

pub returns-clause-ended : goal.returns-clause-ended
returns-clause-ended g c =
    let judged = c.in-Ok.ensures.accepted in
    let reported = rw c.core.ensures at c.report_core.ensures.reported in
    IfOk-weaker c.report_core.result _ _
    (λ status reported. comes_to c.args.settings.now c.args.image.now c.args.trace.now (wants_of c.args.wanted)
    (marks_of c.args.labels.now) judged.trace _ _ _ status judged.is_trace judged.whole judged.accepted judged.shown
    reported)
    reported
