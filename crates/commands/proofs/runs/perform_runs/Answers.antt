use Rattle.std.specs.Prelude.{Ok}
use Rattle.symbols.specs.Tables.{table_of}
use Rattle.core_commands.proofs.OfStress.{stress_anyhow}
use Rattle.commands.proofs.OfRuns.{many_performed, one_performed}
use Rattle.commands.proofs.runs.perform_runs.Goals as goal

pub returns-in-Some : goal.returns-in-Some
returns-in-Some g c = λ lines second same.
    let did = c.perform_stress.ensures in
    many_performed g.S.EndFiles.begins g.S.Sink.written g.S.Sink.has_failed _ _ c.args.run.now c.args.settings.now
    c.args.image.now (table_of c.args.names.now) lines second _ _ c.perform_stress.result did.unbroken
    g.S.EndFiles.is_finished
    did.finished did.unreported _ c.in-Some.is did.refused
    (stress_anyhow c.args.settings.now c.args.image.now (table_of c.args.names.now) c.args.run.now c.in-Some.times _ _ _ _
    c.perform_stress.result did.ended)
    did.unwanted

pub returns-in-Ok : goal.returns-in-Ok
returns-in-Ok g c = λ lines second same.
    let did = c.perform_run.ensures in
    let here = c.in-Ok.ensures in
    let told = rw same at here.ended in
    one_performed g.S.EndFiles.begins g.S.Sink.written g.S.Sink.has_failed _ _ c.args.run.now c.args.settings.now
    c.args.image.now (table_of c.args.names.now) lines second _ _ (Ok c.in-Ok.report.status) here.unbroken
    g.S.EndFiles.is_finished
    here.finished did.unreported c.of_run-wanted.result c.in_default.is c.of_run-wanted.ensures tt told.0 did.unwanted
