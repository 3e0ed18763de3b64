use Rattle.address_labels.specs.Labels.{marks_of}
use Rattle.std.proofs.Common.{sym, subst}
use Rattle.std.specs.Prelude.{Ok}
use Rattle.std.proofs.lemmas.Result.{IfOk-weaker, IfErr-weaker}
use Rattle.sc_machine.specs.Steps.{are_harts}
use Rattle.plain_commands.specs.PlainRounds.{IsRoundsRefusal}
use Rattle.plain_commands.proofs.OfRounds.{accepted_harts, refusal, comes_to}
use Rattle.plain_commands.proofs.plain_rounds.perform_rounds.Goals as goal

pub returns-in-Err-clause-refused : goal.returns-in-Err-clause-refused
returns-in-Err-clause-refused g c =
    rw c.refused_rounds.ensures
    (refusal c.args.settings.now c.in-Err.why c.run_rounds-ran.result c.run_rounds-ran.ensures.harts c.in-Err.is)

pub returns-clause-refused : goal.returns-clause-refused
returns-clause-refused g c =
    let accepted = accepted_harts c.run_rounds-ran.result (are_harts c.args.settings.now.config.harts) (Ok c.in-Ok.left)
    c.run_rounds-ran.ensures.harts c.in-Ok.is (λ same. absurd (cc)) in
    IfErr-weaker c.report_left.result _ _
    (λ why is. subst (IsRoundsRefusal c.args.settings.now) (sym is) accepted) c.report_left.ensures.refused

pub returns-clause-ended : goal.returns-clause-ended
returns-clause-ended g c =
    let accepted = accepted_harts c.run_rounds-ran.result (are_harts c.args.settings.now.config.harts) (Ok c.in-Ok.left)
    c.run_rounds-ran.ensures.harts c.in-Ok.is (λ same. absurd (cc)) in
    IfOk-weaker c.report_left.result _ _
    (λ status reported. comes_to c.args.settings.now c.args.image.now c.args.rounds c.args.records
    (marks_of c.args.labels.now) c.in-Ok.left (g.W.Write.contents c.args.context.now.out)
    (g.W.Write.contents c.run_rounds-ran.new.out)
    (g.W.Write.contents c.report_left.new.out) status accepted c.in-Ok.ensures.ran reported)
    c.report_left.ensures.reported
