use Rattle.std.proofs.Common.{ap, Bool, List}
use Rattle.std.proofs.lemmas.Result.{IfErr-weaker}
use Rattle.core_state.specs.{View.CoreView}
use Rattle.symbols.specs.Tables.{table_of}
use Rattle.watched_outcomes.specs.declared.watch.Watch.{Watch}
use Rattle.core_commands.specs.Stress.{AreEndsWritten}
use Rattle.core_commands.specs.Making.{AreMade, LeavesCore}
use Rattle.core_commands.proofs.OfStress.{absent_refused, output_refused, stress_ended, watches_lent}
use Rattle.core_commands.proofs.stress.perform_stress.Goals as goal

pub returns-clause-refused : goal.returns-clause-refused
returns-clause-refused g c =
    let done = c.in-Ok-tally_runs.ensures.tallied in
    IfErr-weaker c.report_runs.result _ _
    (output_refused c.args.settings.now c.args.image.now (table_of c.args.names.now) c.args.command.now done.accepted
    done.manned)
    c.report_runs.ensures.refused

pub returns-clause-ended : goal.returns-clause-ended
returns-clause-ended g c =
    let names = table_of c.args.names.now in
    let kept : Bool → Watch → List CoreView → Type 0 = λ keep. AreEndsWritten g.F.EndFiles.begins g.F.Sink.written
    g.F.Sink.has_failed c.args.context.now.files c.tally_runs.new.context.files keep names in
    let watches = watches_lent c.watch_of-watch.result _ _ c.as_slice.ensures.value c.watch_of-watch.ensures.registers
    c.watch_of-watch.ensures.words in
    let made : List CoreView → Type 0 =
    AreMade (LeavesCore (goal.M-step g)) c.args.make_run.now c.tally_runs.new.make_run in
    stress_ended c.args.settings.now c.args.image.now names c.args.command.now c.args.times made kept
    c.in-Ok.asking.question c.in-Ok.asking.all.items c.watch_of-watch.result _
    (g.W.Write.contents c.tally_runs.new.context.out) (g.W.Write.contents c.args.context.now.out)
    (g.W.Write.contents c.report_runs.new.out) _ c.is_some.result _ c.in-Ok.ensures.asking watches
    c.in-Ok-see_watched.ensures.there c.in-Ok-tally_runs.ensures.tallied c.runs_of-count.ensures.asked
    c.is_some.ensures (ap (λ out. g.W.Write.contents out) c.tally_runs.ensures.unprinted)
    c.report_runs.result c.report_runs.ensures.printed c.report_runs.ensures.status

pub returns-in-Err-see_watched-clause-refused : goal.returns-in-Err-see_watched-clause-refused
returns-in-Err-see_watched-clause-refused g c =
    let watches = watches_lent c.watch_of-watch.result _ _ c.as_slice.ensures.value c.watch_of-watch.ensures.registers
    c.watch_of-watch.ensures.words in
    absent_refused c.args.settings.now c.args.image.now (table_of c.args.names.now) c.args.command.now
    c.in-Ok.asking.question c.in-Ok.asking.all.items c.watch_of-watch.result c.in-Err-see_watched.refused
    c.in-Ok.ensures.asking watches c.in-Err-see_watched.ensures.refused
